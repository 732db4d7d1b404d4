use Rattle.std.proofs.Common.{ap, ◌∙◌, arith, length, length-append}
use Rattle.lines.specs.Ascii.{bytes}
use Rattle.lock_listing.proofs.Listings.{pushed_held}
use Rattle.lock_listing.proofs.push_mode.Goals as goal

-- there is room for the three parts, one after the other
pub returns-then-held-clause-added : goal.returns-then-held-clause-added
returns-then-held-clause-added c =
    let a = c.args in
    let room = c.requires.has_room in
    let one = c.push_bytes.ensures.added (omega (arith, room)) in
    let longer = ap length one ∙ length-append a.lines.now (bytes "mode,") in
    let two = c.push_field.ensures.added (omega (arith, room, longer)) in
    let short = c.push_field.ensures.short in
    let three = c.push_bytes-then-held.ensures.added (omega (arith, room, longer, short, c.requires.short_word)) in
    pushed_held a.e a.held a.word.now a.lines.now _ _ _ one two three c.if-held.true
