-- What the code keeps to decide deferral shows what decides it.
use Rattle.reading_checks.specs.declared.still.DeferralState as kept
use Rattle.history_reading.specs.Still.{DeferralState}

abbrev pub deferral_view : kept.DeferralState → DeferralState
deferral_view d = record { side = d.side; level = d.level; inner = d.inner }
