-- What of a run is drawn if nothing else is said.
use Rattle.run_picture.specs.Words.{None, View}

-- the whole run, on a page 1,200 pixels wide
abbrev pub whole : View
whole = record { width = 1200; rows = 300; from = 0; to = 4294967295; scope = None }
