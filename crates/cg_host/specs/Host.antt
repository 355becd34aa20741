-- What the adapters mean: they tell nothing of their bytes, and count.
use Rattle.std.specs.Prelude.{ℕ, None}
use Rattle.cg_io.specs.Device.{DeviceState}
use Rattle.cg_host.specs.declared.device.HostDevice.{HostDevice}
use Rattle.cg_host.specs.declared.stream.HostSource.{HostSource}
use Rattle.cg_host.specs.declared.stream.HostSink.{HostSink}

-- a file as a device
abbrev pub device_of : {R F G : Type 0} → HostDevice R F G → DeviceState
device_of d = record { held = None; faults = d.faults; lost = d.lost; reads = d.reads; writes = d.writes }

-- a device of which nothing was asked yet
abbrev pub untouched : DeviceState
untouched = record { held = None; faults = 0; lost = 0; reads = 0; writes = 0 }

-- how often the standard input failed
abbrev pub source_faults : {R S : Type 0} → HostSource R S → ℕ
source_faults s = s.faults

-- how often the standard output failed
abbrev pub sink_faults : {R : Type 0} → HostSink R → ℕ
sink_faults s = s.faults
