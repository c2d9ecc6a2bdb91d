-- What a join would give, by the history.
use Rattle.scope_log.specs.Words.{ℕ, History, Join, Option, followed, option_and_then, option_map, outcome}
use Rattle.scope_log.specs.{Log.log, declared.previews.Preview.Preview}

-- what scope s shows once the actor joined it, the next after h: its outcome, and its log
unfoldable pub preview : History → ℕ → ℕ → Option Preview
preview h a s = option_and_then (λ o. option_map (λ l. record { outcome = o; log = l }) (log (followed h (Join a s)) s)) (outcome (followed h (Join a s)) s)
