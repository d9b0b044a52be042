-- A field that PUT writes has few bytes: its body has the table's length, at most 5, or is a note of at most 64. Assumes nothing.
use Prim.Native.Nat.{ℕ, ◌≤◌}
use mathlib.Core.Path.{◌≡◌, refl}
use mathlib.Core.Bool.{Bool, true, false, cond}
use mathlib.Core.List.{List}
use native.Mathlib.Omega.{arith}
use borrow.Author.Tests.{ltb-false}
use lib.Dec.{eqb}
use lib.ListN.{length}
use Rattle.basics.specs.Tests.{refuse}
use Rattle.event.specs.declared.event.Event.TheVariants.{Claim, Deliver, Step, Lose, Answer}
use Rattle.field.specs.declared.field.Field.{Field}
use Rattle.field.specs.declared.field.Field.TheVariants.{Open, Play, Note}
use Rattle.field.specs.declared.table.Kind as declared_kind
use Rattle.field.specs.declared.table.Kind.TheVariants as kind
use Rattle.field.specs.Field.{field_from}
use Rattle.exports.specs.Exports.{asked}
use Rattle.put.specs.Bytes.{bytes}
use Rattle.put.specs.Put.{note_too_long, no_room, put_number, put_count}

short : (f : Field) (note : List ℕ) → note_too_long f note ≡ false → length (bytes f note) ≤ 67
unfolding bytes
short (Open n rule) note e = omega arith
short (Play (Claim s v)) note e = omega arith
short (Play (Deliver t s)) note e = omega arith
short (Play (Step s)) note e = omega arith
short (Play (Lose s)) note e = omega arith
short (Play (Answer b a)) note e = omega arith
short Note note e = omega (arith, ltb-false 64 (length note) e)

by_tests : (f : Field) (note : List ℕ) (long : Bool) → note_too_long f note ≡ long → (out : Bool)
    → cond (eqb (refuse long 22 (refuse out 30 0)) 0) (length (bytes f note)) 0 ≤ 67
by_tests f note true e out = omega arith
by_tests f note false e true = omega arith
by_tests f note false e false = short f note e

-- the field asked for is that of the kind with these numbers
pub as_asked : (k : declared_kind.Kind) (x y v : ℕ) → field_from k x y v ≡ asked k x y v
unfolding asked
as_asked kind.Open x y v = refl
as_asked kind.Claim x y v = refl
as_asked kind.Deliver x y v = refl
as_asked kind.Step x y v = refl
as_asked kind.Lose x y v = refl
as_asked kind.Answer x y v = refl
as_asked kind.Note x y v = refl

pub few_bytes : (f : Field) (note buffer : List ℕ) (place : ℕ) → put_count f note buffer place ≤ 67
unfolding put_number
few_bytes f note buffer place = by_tests f note (note_too_long f note) refl (no_room f note buffer place)
