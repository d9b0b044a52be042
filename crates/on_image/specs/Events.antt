-- The five events on an image that the caller lends (document 01: "the caller lends one settlement to each event and finds it advanced there").
-- Assumes nothing.
use Rattle.std.specs.Prelude.{ℕ, cond, List, eqb}
use Rattle.consensus.specs.Events.{Event}
use Rattle.settlement.specs.Events.{played}
use Rattle.image.specs.Image.{image_of, record_in, image_first}

-- what the bytes are if they are no image, else what the event says of the record
unfoldable pub image_number : List ℕ → Event → ℕ
image_number b e = image_first b (played (record_in b) e).number

-- accepted, the image of the next record; refused, every byte as it was
unfoldable pub image_after : List ℕ → Event → List ℕ
image_after b e = cond (eqb (image_number b e) 0) (image_of (played (record_in b) e).settlement) b
