-- The jobs of a plan's offers.
use Rattle.quote_gateway.specs.Words.{LabelValue, List, NamedValue, map}

-- the labels of the jobs, in order
abbrev pub labels_in : {J : Type 0} → List (NamedValue J) → List LabelValue
labels_in jobs = map (λ job. job.label) jobs
