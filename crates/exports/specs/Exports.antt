-- PUT as it is called from other languages: a field by its tag and numbers, an answer in one number. Assumes nothing.
use Rattle.std.specs.Prelude.{ℕ, ◌+◌, ◌*◌, List, Option, Some, None}
use Rattle.event.specs.declared.event.Event.TheVariants.{Claim, Deliver, Step, Lose, Answer}
use Rattle.field.specs.declared.table.Kind as declared_kind
use Rattle.field.specs.declared.table.Kind.TheVariants as kind
use Rattle.field.specs.declared.table.Row as declared_row
use Rattle.field.specs.declared.field.Field.{Field}
use Rattle.field.specs.declared.field.Field.TheVariants.{Open, Play, Note}
use Rattle.put.specs.Put.{put_number, put_count, put_buffer}

-- The field of a kind: x and y are its one-byte numbers in the table's order, v is a claim. What the kind does not have says nothing.
unfoldable pub asked : declared_kind.Kind → (x y v : ℕ) → Field
asked kind.Open x y v = Open x y
asked kind.Claim x y v = Play (Claim x v)
asked kind.Deliver x y v = Play (Deliver x y)
asked kind.Step x y v = Play (Step x)
asked kind.Lose x y v = Play (Lose x)
asked kind.Answer x y v = Play (Answer x y)
asked kind.Note x y v = Note

-- PUT's number and count in one: 65,536 times the number, and the count. A tag that is not in the table: READ's number for it, 21.
unfoldable pub put_answer : Option declared_row.Row → (x y v : ℕ) → (note buffer : List ℕ) → ℕ → ℕ
put_answer None x y v note buffer place = 21 * 65536
put_answer (Some row) x y v note buffer place =
    put_number (asked row.kind x y v) note buffer place * 65536 + put_count (asked row.kind x y v) note buffer place

unfoldable pub put_after : Option declared_row.Row → (x y v : ℕ) → (note buffer : List ℕ) → ℕ → List ℕ
put_after None x y v note buffer place = buffer
put_after (Some row) x y v note buffer place = put_buffer (asked row.kind x y v) note buffer place
