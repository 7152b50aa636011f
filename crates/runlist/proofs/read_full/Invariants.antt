-- What the loop of `runlist::read_full` keeps: as many bytes as came have room.
use Rattle.std.proofs.Common.{◌≤◌, length}
use Rattle.runlist.proofs.read_full.Given as goal

abbrev pub invariant-loop : goal.invariant-loop
invariant-loop g l = l.n ≤ length l.file
