-- `SharedObject::apply_known` meets its contract.
use Rattle.std.proofs.Common.{◌≡◌, ◌≤◌, length, arith}
use Rattle.boosting.specs.Object.{State, effect, reply, is_yes, add}
use Rattle.tables.specs.Table.{insert_of}
use Rattle.shared_object.proofs.Calls.{insert-room, once-room}
use Rattle.shared_object.proofs.SharedObject.apply_known.Goals as goal

pub insert-requires : goal.insert-requires
unfolding effect
insert-requires c =
    let s : State = record { script = c.self.inside.script; queue = c.self.inside.queue } in
    let yes : is_yes ≡ reply (add c.in-Add.key) s = rw (c.in-Add.is, c.in-Yes.is, ← c.self.view_is) at c.requires.known in
    (omega arith, once-room c.in-Add.key 256 s yes (rw (c.in-Add.is, ← c.self.view_is) at c.requires.has_room.script))

pub insert-requires-in-Push : goal.insert-requires-in-Push
unfolding effect
insert-requires-in-Push c =
    let room : length (insert_of c.in-Push.key c.self.inside.queue) ≤ 64 = rw (c.in-Push.is, ← c.self.view_is) at c.requires.has_room.queue in
    (omega arith, insert-room c.in-Push.key 64 _ room)
