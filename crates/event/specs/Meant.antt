-- The crate's enum as an event of the list, which has any numbers as arguments. Assumes nothing.
use Rattle.consensus.specs.Events.{Event, claim, deliver, step, lose, answer}
use Rattle.event.specs.declared.event.Event as declared_event
use Rattle.event.specs.declared.event.Event.TheVariants.{Claim, Deliver, Step, Lose, Answer}

abbrev pub meant : declared_event.Event → Event
meant (Claim s v) = claim s v
meant (Deliver t s) = deliver t s
meant (Step s) = step s
meant (Lose s) = lose s
meant (Answer b a) = answer b a
