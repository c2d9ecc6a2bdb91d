-- What an open is refused for if there is no room.
use Rattle.std.proofs.Common.{◌∙◌, ◌≡◌, Err, Ok, ap, inl, inr, refl, sym}
use Rattle.realm_lock.specs.{Checked, DoesOrMemory, Happened, Looked, Open, Options, OwnerValue, Policy, check_of, history_seen, next_scope, refusal_of}

module _ (old new : OwnerValue) (looked : Looked old new) where
  seen : {checked : Checked} → ((policy : Policy) (options : Options) → checked ≡ check_of new.limits (history_seen new) (Open new.actor policy options)) → (policy : Policy) (options : Options) → checked ≡ check_of old.limits (history_seen new) (Open old.actor policy options)
  seen is policy options = is policy options ∙ ap (λ (v : OwnerValue). check_of v.limits (history_seen new) (Open v.actor policy options)) looked.0

  -- the rules' refusal, or want of memory
  pub no_room : (checked : Checked) → ((policy : Policy) (options : Options) → checked ≡ check_of new.limits (history_seen new) (Open new.actor policy options)) → (policy : Policy) (options : Options) → DoesOrMemory old new (Happened (Open old.actor policy options)) next_scope (Err (refusal_of checked))
  no_room (Ok tt) is policy options =
      (looked.0, inr (record { looks = looked.1; passed = sym (seen is policy options); memory = refl }))
  no_room (Err refusal) is policy options =
      (looked.0, inl (record { looks = looked.1; by = sym (seen is policy options) }))
