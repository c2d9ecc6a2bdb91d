-- The prices of the offers, one by one.
use Rattle.std.specs.Prelude.{◌++◌, ◌+◌, ◌∷◌, ◌≡◌, ◌≤◌}
use Rattle.quote_plan.specs.{[], ℕ, List, Named, None, Option, Quote, Some, TaskState, available, cons_option, length, option_and_then, option_to_list, quote_in, quote_there}
use Rattle.quote_plan.specs.{quotes_in, slice_get, take}
use Rattle.quote_plan.proofs.Words.{◌∙◌, add-one, ap, append-nil, arith, refl, suc, take_all, zero}

abbrev pub quote_at : List Named → ℕ → Option Quote
quote_at offers i = option_and_then quote_in (slice_get offers i)

cons_after : (o : Option Quote) (xs ys : List Quote) → cons_option o (xs ++ ys) ≡ cons_option o xs ++ ys
cons_after None xs ys = refl
cons_after (Some x) xs ys = refl

listed : (o : Option Quote) → cons_option o [] ≡ option_to_list o
listed None = refl
listed (Some x) = refl

-- the prices of one offer more
one_more : (offers : List Named) (i : ℕ) → quotes_in (take (suc i) offers) ≡ quotes_in (take i offers) ++ option_to_list (quote_at offers i)
unfolding quotes_in
one_more [] zero = refl
one_more [] (suc i) = refl
one_more (e ∷ es) zero = listed (quote_in e)
one_more (e ∷ es) (suc i) =
    ap (cons_option (quote_in e)) (one_more es i) ∙ cons_after (quote_in e) (quotes_in (take i es)) (option_to_list (quote_at es i))

pub no_quote : (offers : List Named) (i : ℕ) → quote_at offers i ≡ None → quotes_in (take (i + 1) offers) ≡ quotes_in (take i offers)
no_quote offers i none = rw add-one (one_more offers i ∙ (ap (λ o. quotes_in (take i offers) ++ option_to_list o) none ∙ append-nil (quotes_in (take i offers))))

pub one_quote : (offers : List Named) (i : ℕ) (quote : Quote) → quote_at offers i ≡ Some quote → quotes_in (take (i + 1) offers) ≡ quotes_in (take i offers) ++ quote ∷ []
one_quote offers i quote one = rw add-one (one_more offers i ∙ ap (λ o. quotes_in (take i offers) ++ option_to_list o) one)

pub all_quotes : (offers : List Named) (i : ℕ) → length offers ≤ i → quotes_in (take i offers) ≡ quotes_in offers
all_quotes offers i past = ap quotes_in (take_all i offers past)

-- the same of the offers whose tasks have ended
abbrev pub there_at : List Named → TaskState → ℕ → Option Quote
there_at offers task i = option_and_then (quote_there task.state) (slice_get offers i)

one_more_there : (offers : List Named) (tasks : List TaskState) (i : ℕ) (task : TaskState) → slice_get tasks i ≡ Some task → available (take (suc i) offers) (take (suc i) tasks) ≡ available (take i offers) (take i tasks) ++ option_to_list (there_at offers task i)
unfolding available
one_more_there [] tasks zero task is = refl
one_more_there [] tasks (suc i) task is = refl
one_more_there (e ∷ es) [] i task is = absurd cc
one_more_there (e ∷ es) (t ∷ ts) zero task is =
    let same : t ≡ task = cc in
    listed (quote_there t.state e) ∙ ap (λ (x : TaskState). option_to_list (quote_there x.state e)) same
one_more_there (e ∷ es) (t ∷ ts) (suc i) task is =
    ap (cons_option (quote_there t.state e)) (one_more_there es ts i task is) ∙ cons_after (quote_there t.state e) (available (take i es) (take i ts)) (option_to_list (there_at es task i))

pub none_there : (offers : List Named) (tasks : List TaskState) (i : ℕ) (task : TaskState) → slice_get tasks i ≡ Some task → there_at offers task i ≡ None → available (take (i + 1) offers) (take (i + 1) tasks) ≡ available (take i offers) (take i tasks)
none_there offers tasks i task is none =
    rw add-one (one_more_there offers tasks i task is ∙ (ap (λ o. available (take i offers) (take i tasks) ++ option_to_list o) none ∙ append-nil (available (take i offers) (take i tasks))))

pub one_there : (offers : List Named) (tasks : List TaskState) (i : ℕ) (task : TaskState) (quote : Quote) → slice_get tasks i ≡ Some task → there_at offers task i ≡ Some quote → available (take (i + 1) offers) (take (i + 1) tasks) ≡ available (take i offers) (take i tasks) ++ quote ∷ []
one_there offers tasks i task quote is one =
    rw add-one (one_more_there offers tasks i task is ∙ ap (λ o. available (take i offers) (take i tasks) ++ option_to_list o) one)

-- offers beyond the tasks aren't there
pub all_there : (offers : List Named) (tasks : List TaskState) → available (take (length tasks) offers) tasks ≡ available offers tasks
unfolding available
all_there [] [] = refl
all_there [] (t ∷ ts) = refl
all_there (e ∷ es) [] = refl
all_there (e ∷ es) (t ∷ ts) = ap (cons_option (quote_there t.state e)) (all_there es ts)

pub start_there : (offers : List Named) (tasks : List TaskState) → available (take 0 offers) (take 0 tasks) ≡ []
unfolding available
start_there offers tasks = refl

pub whole_there : (offers : List Named) (tasks : List TaskState) (i : ℕ) → i ≡ length tasks → available (take i offers) (take i tasks) ≡ available offers tasks
whole_there offers tasks i all =
    ap (λ k. available (take k offers) (take k tasks)) all ∙ (ap (available (take (length tasks) offers)) (take_all (length tasks) tasks (omega arith)) ∙ all_there offers tasks)

pub start : quotes_in [] ≡ []
unfolding quotes_in
start = refl
