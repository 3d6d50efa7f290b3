-- The operands read so far and those that are left are the line's operands; then `reads`.
use Rattle.std.proofs.Common.{◌≡◌, [], ◌-◌, ◌≤◌, length, take, drop}
use Rattle.script_read_request.specs.Asked.{operands, max_operands}
use Rattle.script_read_request.proofs.request_at.Given as goal

abbrev pub invariant-loop-count : goal.invariant-loop-count
invariant-loop-count l = record {
  inside : l.i ≤ length l.l;
  size : length l.items ≡ max_operands;
  left : operands (max_operands - l.count) (take l.count l.items) (drop l.i l.l) ≡ operands max_operands [] (drop l.at l.l);
}
