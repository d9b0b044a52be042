-- PUT's bytes and answers, computed. Assumes nothing.
use mathlib.Core.Path.{refl}
use Rattle.field.specs.Table.{row_with}
use Rattle.put.specs.Bytes.{bytes}
use Rattle.put.specs.Put.{put_number}
use Rattle.exports.specs.Exports.{asked, put_answer, put_after}
use Rattle.exports.specs.Examples.{PutShown}

pub put_shown : PutShown
unfolding row_with bytes put_number asked put_answer put_after
put_shown =
    record {
      opening = refl;
      claim = refl;
      deliver = refl;
      step = refl;
      lose = refl;
      answer = refl;
      note = refl;
      unknown = refl;
      opening_bytes = refl;
      claim_bytes = refl;
      step_bytes = refl;
      note_bytes = refl;
      unknown_tag = refl;
      long_note = refl;
      no_room = refl;
      no_room_left = refl;
    }
