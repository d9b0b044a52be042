-- `lent::events::lose_lent`: what is refused stands there. Assumes nothing.
use Rattle.lent.proofs.Given.{given_back}
use Rattle.lent.proofs.events.lose_lent.Goals as goal

pub store-requires : goal.store-requires
store-requires c = given_back _ _ _ c.lose.ensures
