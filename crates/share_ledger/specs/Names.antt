-- The tables that realms are named by.
use Rattle.share_ledger.specs.Words.{[], TableId}

-- a table that is no realm's
abbrev pub no_table : TableId
no_table = record { words = 1; slots = 0; views_name = 0; atom = 0; block = 0; offset = 0; slot_names = [] }
