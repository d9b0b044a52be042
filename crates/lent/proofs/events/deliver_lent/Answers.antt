-- `lent::events::deliver_lent`: what is refused stands there. Assumes nothing.
use Rattle.lent.proofs.Given.{given_back}
use Rattle.lent.proofs.events.deliver_lent.Goals as goal

pub store-requires : goal.store-requires
store-requires c = given_back _ _ _ c.deliver.ensures
