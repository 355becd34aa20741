use Rattle.cg_io.specs.Memory.{device_of}
use Rattle.block_cache.specs.Cache.{IsCache}
use Rattle.device_tests.proofs.caches.run.Given as goal

abbrev pub invariant-loop-step : goal.invariant-loop-step
invariant-loop-step l = record {
  sound : IsCache device_of l.cache;
}
