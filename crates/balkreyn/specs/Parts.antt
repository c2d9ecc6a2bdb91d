-- What is run for a service.
use Rattle.std.specs.Prelude.{◌⊎◌, IsErr, IsOk}
use Rattle.balkreyn.specs.Words.{EndValue}
use Rattle.balkreyn.specs.declared.act.tasks.Part.{Part, TheVariants.Own, TheVariants.Request, TheVariants.Stop, TheVariants.Watch}

-- a request ends as its job may, or it fails
abbrev pub AsksEnd : {W : Type 0} → (W → EndValue → Type 0) → W → EndValue → Type 0
AsksEnd may job end = may job end ⊎ IsErr end

-- a job of the service ends as that may, of the watch for its stop nothing is said, and that for its files succeeds
abbrev pub PartMayEnd : {W : Type 0} → (W → EndValue → Type 0) → Part W → EndValue → Type 0
PartMayEnd may (Own job) end = may job end
PartMayEnd may (Request asking) end = AsksEnd may asking.job end
PartMayEnd may (Stop watch) end = Unit {0}
PartMayEnd may (Watch watch) end = IsOk end
