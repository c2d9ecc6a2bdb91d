-- A scope that is opened: without a deadline, with one that is still to come, or with one that has passed.
use Rattle.std.proofs.Common.{[], ℕ, ◌++◌, ◌+◌, ◌-◌, ◌<◌, ◌∙◌, ◌∷◌, ◌≡◌, ◌≤◌, Bool, List, None, Option, Some, ap, arith, cond, length, length-append, option_map, refl, subst, sym, true}
use Rattle.cancel_tree.specs.Rows.{altered}
use Rattle.scope_index.specs.{CancelTable, Deadline, HasRow, IfSome, IsAdded, IsLatest, IsOpened, JoinerStanding, Options, Policy, ScopeNode, StandsFor, cancel_at, cancelled, changed, deadlined, is_past, new_row, with_deadline}
use Rattle.scope_index.specs.{with_own, with_scope}
use Rattle.scope_index.proofs.Words.{latest_add, le-leb, lt-leb}
use Rattle.scope_index.proofs.OpenSteps.{opened_next, opened_row}

altered_last : (f : ScopeNode → ScopeNode) (ts : List ScopeNode) (t : ScopeNode) → altered f (ts ++ t ∷ []) (length ts) ≡ ts ++ f t ∷ []
altered_last f [] t = refl
altered_last f (u ∷ us) t = ap (λ xs. u ∷ xs) (altered_last f us t)

changed_last : (f : ScopeNode → ScopeNode) (ts : List ScopeNode) (t : ScopeNode) (n : ℕ) → n ≡ length ts + 1 → changed (ts ++ t ∷ []) n f ≡ ts ++ f t ∷ []
changed_last f ts t n is = let i : n - 1 ≡ length ts = omega (arith, is) in ap (altered f (ts ++ t ∷ [])) i ∙ altered_last f ts t

back : (b : ℕ) (parent : Option ℕ) → IfSome parent (λ p. b ≤ p) → parent ≡ option_map (λ p. b + p) (option_map (λ p. p - b) parent)
back b None above = refl
back b (Some p) above = (let is : p ≡ b + (p - b) = omega (arith, above) in ap Some is)

above_base : (t : CancelTable) (parent : Option ℕ) → IfSome parent (HasRow t) → IfSome parent (λ p. t.before ≤ p)
above_base t None has = tt
above_base t (Some p) has = omega (arith, has.after)

-- a parent with a row is a row of the tree
pub parent_added : (t : CancelTable) (parent : Option ℕ) → IfSome parent (HasRow t) → IfSome (option_map (λ p. p - t.before) parent) (IsAdded t.nodes)
parent_added t None has = tt
parent_added t (Some p) has = (omega (arith, has.after), omega (arith, has.within))

-- what is added without its deadline, and then has it
opened_with : (old new : CancelTable) (parent : Option ℕ) (policy : Policy) (options : Options) (place : ℕ) (account : JoinerStanding)
    → IfSome parent (HasRow old) → account.policy ≡ policy → StandsFor account []
    → new.before ≡ old.before → new.moment ≡ old.moment → new.accounts ≡ old.accounts ++ account ∷ []
    → new.nodes ≡ old.nodes ++ opened_row old.moment place (length old.nodes + 1) (option_map (λ p. p - old.before) parent) options ∷ []
    → IsOpened old new parent policy options place
opened_with old new parent policy options place account there rule stands before moment_is accounts nodes L h actor legal was at around =
    opened_next L h actor policy options old new (option_map (λ p. p - old.before) parent) account legal was
    (sym around ∙ back old.before parent (above_base old parent there)) before moment_is
    (nodes ∙ ap (λ x. old.nodes ++ opened_row old.moment x (length old.nodes + 1) (option_map (λ p. p - old.before) parent) options ∷ []) at) accounts rule stands

row_by : ℕ → ℕ → ℕ → Option ℕ → Bool → Option ℕ → Bool → ScopeNode
row_by now place n parent shield deadline past = record { parent = parent; shield = shield; opened = place; own = cond past (Some (cancel_at place n Deadline)) None; deadline = deadline }

-- opened without a deadline
pub opened_plain : (old new : CancelTable) (parent : Option ℕ) (policy : Policy) (options : Options) (place : ℕ) (account : JoinerStanding)
    → IfSome parent (HasRow old) → account.policy ≡ policy → StandsFor account [] → options.deadline ≡ None
    → new ≡ with_scope old (option_map (λ p. p - old.before) parent) options.shield place account
    → IsOpened old new parent policy options place
unfolding row_by
opened_plain old new parent policy options place account there rule stands none is =
    let inside = option_map (λ p. p - old.before) parent in
    opened_with old new parent policy options place account there rule stands (ap (λ (t : CancelTable). t.before) is) (ap (λ (t : CancelTable). t.moment) is) (ap (λ (t : CancelTable). t.accounts) is)
    (ap (λ (t : CancelTable). t.nodes) is ∙ ap (λ d. old.nodes ++ row_by old.moment place (length old.nodes + 1) inside options.shield d (is_past old.moment d) ∷ []) (sym none))

-- opened with a deadline that is still to come
pub opened_coming : (old new : CancelTable) (parent : Option ℕ) (policy : Policy) (options : Options) (place d : ℕ) (account : JoinerStanding)
    → IfSome parent (HasRow old) → account.policy ≡ policy → StandsFor account [] → options.deadline ≡ Some d → old.moment < d
    → new ≡ deadlined (with_scope old (option_map (λ p. p - old.before) parent) options.shield place account) (old.before + (length old.nodes + 1)) (Some d)
    → IsOpened old new parent policy options place
unfolding row_by
opened_coming old new parent policy options place d account there rule stands deadline coming is =
    let inside = option_map (λ p. p - old.before) parent in
    let n : (old.before + (length old.nodes + 1)) - old.before ≡ length old.nodes + 1 = omega arith in
    opened_with old new parent policy options place account there rule stands (ap (λ (t : CancelTable). t.before) is) (ap (λ (t : CancelTable). t.moment) is) (ap (λ (t : CancelTable). t.accounts) is)
    (ap (λ (t : CancelTable). t.nodes) is
    ∙ (changed_last (with_deadline (Some d)) old.nodes (new_row inside options.shield place) ((old.before + (length old.nodes + 1)) - old.before) n
    ∙ (ap (λ b. old.nodes ++ row_by old.moment place (length old.nodes + 1) inside options.shield (Some d) b ∷ []) (sym (lt-leb d old.moment coming))
    ∙ ap (λ x. old.nodes ++ row_by old.moment place (length old.nodes + 1) inside options.shield x (is_past old.moment x) ∷ []) (sym deadline))))

-- opened with a deadline that has passed
pub opened_past : (old mid next new : CancelTable) (parent : Option ℕ) (policy : Policy) (options : Options) (place d s : ℕ) (account : JoinerStanding)
    → IfSome parent (HasRow old) → account.policy ≡ policy → StandsFor account [] → options.deadline ≡ Some d → d ≤ old.moment → s ≡ old.before + (length old.nodes + 1)
    → mid ≡ with_scope old (option_map (λ p. p - old.before) parent) options.shield place account
    → next ≡ deadlined mid s (Some d) → new ≡ cancelled next s Deadline place
    → IsOpened old new parent policy options place
unfolding row_by
opened_past old mid next new parent policy options place d s account there rule stands deadline past number added given is =
    let inside = option_map (λ p. p - old.before) parent in
    let whole : new ≡ cancelled (deadlined (with_scope old inside options.shield place account) s (Some d)) s Deadline place = is ∙ ap (λ t. cancelled t s Deadline place) (given ∙ ap (λ t. deadlined t s (Some d)) added) in
    let n : s - old.before ≡ length old.nodes + 1 = omega (arith, number) in
    let f = with_own (cancel_at place (s - old.before) Deadline) in
    opened_with old new parent policy options place account there rule stands (ap (λ (t : CancelTable). t.before) whole) (ap (λ (t : CancelTable). t.moment) whole) (ap (λ (t : CancelTable). t.accounts) whole)
    (ap (λ (t : CancelTable). t.nodes) whole
    ∙ (ap (λ rs. changed rs (s - old.before) f) (changed_last (with_deadline (Some d)) old.nodes (new_row inside options.shield place) (s - old.before) n)
    ∙ (changed_last f old.nodes (with_deadline (Some d) (new_row inside options.shield place)) (s - old.before) n
    ∙ (ap (λ m. old.nodes ++ row_by old.moment place m inside options.shield (Some d) true ∷ []) n
    ∙ (ap (λ b. old.nodes ++ row_by old.moment place (length old.nodes + 1) inside options.shield (Some d) b ∷ []) (sym (le-leb d old.moment past))
    ∙ ap (λ x. old.nodes ++ row_by old.moment place (length old.nodes + 1) inside options.shield x (is_past old.moment x) ∷ []) (sym deadline))))))

-- the new scope has a row
pub has_added : (old new : CancelTable) (inside : Option ℕ) (shield : Bool) (place : ℕ) (account : JoinerStanding) (s : ℕ) → s ≡ old.before + (length old.nodes + 1) → new ≡ with_scope old inside shield place account → HasRow new s
has_added old new inside shield place account s number is =
    subst (λ t. HasRow t s) (sym is) (record { after = omega (arith, number); within = omega (arith, number, length-append old.nodes (new_row inside shield place ∷ [])) })

pub latest_added : (old new : CancelTable) (inside : Option ℕ) (shield : Bool) (account : JoinerStanding) (place : ℕ) → new ≡ with_scope old inside shield place account → IsLatest old.nodes place → IsLatest new.nodes place
latest_added old new inside shield account place is latest = subst (λ (t : CancelTable). IsLatest t.nodes place) (sym is) (latest_add old.nodes place inside shield place (omega arith) latest)
