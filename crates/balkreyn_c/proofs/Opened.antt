-- What an open did to a book.
use Rattle.std.proofs.Common.{ℕ, ◌∙◌, ◌≡◌, None, Option, Some, inl, is_some, pos, refl}
use Rattle.balkreyn_c.specs.{IsFresh, OpensBook, TimedRealm, resting}

-- a book whose word is 0 holds none
pub holds_none : (held : Option TimedRealm) (word : ℕ) → word ≡ resting (is_some held) → word ≡ 0 → held ≡ None
holds_none None word rests zero = refl
holds_none (Some timed) word rests zero = absurd cc

pub opened : (held new : Option TimedRealm) (scopes tasks load : ℕ) (timed : TimedRealm) → held ≡ None → IsFresh scopes tasks load (pos 0) (Some timed) → new ≡ Some timed → OpensBook held scopes tasks load (pos 0) new
opened held new scopes tasks load timed none fresh holds =
    rw none (inl (record { limits = fresh.limits; timed = fresh.timed; scopes_are = fresh.scopes_are; tasks_are = fresh.tasks_are; load_is = fresh.load_is; number = refl; realm = fresh.realm; times = fresh.times; holds = holds ∙ fresh.holds }))
