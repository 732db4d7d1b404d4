-- `SharedObject::undo` meets its contract.
use Rattle.std.proofs.Common.{◌≤◌, length, arith}
use Rattle.boosting.specs.Undo.{inverse}
use Rattle.tables.specs.Table.{insert_of}
use Rattle.shared_object.proofs.Calls.{insert-room}
use Rattle.shared_object.proofs.SharedObject.undo.Goals as goal

pub insert-requires : goal.insert-requires
unfolding inverse
insert-requires c =
    let room : length (insert_of c.in-Taken.key c.self.inside.queue) ≤ 64 = rw (c.in-Taken.is, ← c.self.view_is) at c.requires.queue in
    (omega arith, insert-room c.in-Taken.key 64 _ room)
