-- The lines counted so far and those of the chunks that are left are all of them.
use Rattle.std.proofs.Common.{◌+◌, ◌*◌, ◌≤◌, ◌≡◌, length}
use Rattle.std.specs.Slice.Iter.{chunks_exact_rest, chunks_exact_size}
use Rattle.rules.specs.Ports.{pairs}
use Rattle.text_lines.specs.Lines.{port_lines}
use Rattle.text_block.specs.Parts.{ports_lines}
use Rattle.text_length.proofs.ports_lines.Given as goal

abbrev pub invariant-loop-port : goal.invariant-loop-port
invariant-loop-port l =
    (chunks_exact_size l.port-iterator ≡ 2)
    × (l.total + 24 * length (chunks_exact_rest l.port-iterator) ≤ 28 + 24 * length l.ports)
    × (l.total + length (port_lines l.name (pairs (chunks_exact_rest l.port-iterator))) ≡ length (ports_lines l.plural l.name (pairs l.ports)))
