-- How long the closing lists are. Assumes nothing.
use mathlib.Core.Path.{◌≡◌}
use mathlib.Core.List.{List, ◌++◌}
use Prim.Native.Nat.{ℕ, ◌+◌, ◌^◌, ◌≤◌, ◌<◌}
use native.Mathlib.Omega.{arith}
use lib.ListN.{length, length-append}
use Rattle.lines.specs.Ascii.{bytes}
use Rattle.digits.specs.Digits.{digits_of}
use Rattle.digits.proofs.Laws.{digits_at_most}
use Rattle.records.specs.Record.{field_text}
use Rattle.records.proofs.Laws.{field_length}
use Rattle.scripts.specs.ScriptText.{text_of}
use Rattle.scripts.proofs.Theorems.{text_at_most, text_fits}
use Rattle.boosting.specs.Object.{State}
use Rattle.boosting.specs.Store.{Store}
use Rattle.boosting.specs.Sound.{Sound}
use Rattle.boosting.proofs.Theorems.{sound_has_room}
use Rattle.closing_lists.specs.Closing.{list_text, closing_text}

pub list_length : (word keys : List ℕ)
    → length (list_text word keys) ≡ length word + (length (digits_of (length keys)) + 1) + length (text_of keys)
list_length word keys =
    omega (
      arith,
      length-append (word ++ field_text (length keys) 10) (text_of keys),
      length-append word (field_text (length keys) 10),
      field_length (length keys) 10,
    )

pub both_counted : (s : State)
    → length (closing_text s)
    ≡ length (list_text (bytes "script,") s.script) + length (list_text (bytes "queue,") s.queue)
unfolding closing_text
both_counted s = length-append (list_text (bytes "script,") s.script) (list_text (bytes "queue,") s.queue)

-- those of a store that stepping can reach never have more than 4,500 bytes
pub closing_fits : (d : Store) → Sound d → length (closing_text d.state) ≤ 4500
closing_fits d v =
    let s = d.state.script in
    let q = d.state.queue in
    let r = sound_has_room d v in
    let a : length s < 10 ^ 3 = omega (arith, r.0.at_most) in
    let b : length q < 10 ^ 2 = omega (arith, r.1) in
    omega (
      arith,
      both_counted d.state,
      list_length (bytes "script,") s,
      list_length (bytes "queue,") q,
      text_fits s r.0,
      text_at_most q v.queue_in_range,
      digits_at_most 2 19 (length s) a,
      digits_at_most 1 19 (length q) b,
      r.1,
    )
