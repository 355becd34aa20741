use Rattle.device_tests.proofs.nodes.run_chunks.Given as goal

abbrev pub invariant-loop-done : goal.invariant-loop-done
invariant-loop-done g l = g.R.ReadBytes.is_sound l.bytes
