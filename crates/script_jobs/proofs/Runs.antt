-- What a run of a script has read and written is what a job has.
use Rattle.std.specs.Prelude.{◌++◌, ◌∷◌, ◌≡◌}
use Rattle.script_jobs.specs.{[], ℕ, Appends, AppendsPart, Consumes, Count, Dump, IsAtEnd, IsShown, Limits, List, Option, Quiet, ReadSome, Realm, Replayed, Replies, RunsPartly, RunsTallied}
use Rattle.script_jobs.specs.{RunsText, Showed, Tally, View, count_in, count_of_script, dump_text, realm_of_script, replies_of, shown as shown_bytes, stamps_of_script, tally_of_script}
use Rattle.script_jobs.proofs.Words.{◌∙◌, ap, refl, subst}

no_part : (part rest : List ℕ) → [] ≡ part ++ rest → part ≡ []
no_part [] rest e = refl
no_part (b ∷ part) rest e = absurd cc

-- what is counted of the run is what is counted of its script
pub count_is : (limits : Limits) (script : List ℕ) (realm : Realm) (tally : Tally) (count : Count) → realm ≡ realm_of_script limits script → tally ≡ tally_of_script limits script → count ≡ count_in tally realm.history → count ≡ count_of_script limits script
count_is limits script realm tally count left counted is =
    is ∙ (ap (λ (t : Tally). count_in t realm.history) counted ∙ ap (λ (r : Realm). count_in (tally_of_script limits script) r.history) left)

module _ (limits : Limits) (unread unread_new written written_new : Option (List ℕ)) where
  pub replayed : (realm : Realm) (tally : Tally) (count : Count) → RunsTallied unread unread_new written written_new Replies limits realm tally → count ≡ count_in tally realm.history
      → Replayed unread unread_new written written_new limits count
  replayed realm tally count run is = record {
    script = run.ends.script;
    read = run.ends.read;
    all = run.ends.all;
    wrote = run.ends.replied;
    counted = count_is limits run.ends.script realm tally count run.ends.left run.counted is;
  }

  -- ---- a run that writes nothing

  pub shown : (view : View) (script bytes : List ℕ) (realm : Realm) (tally : Tally) (text : List ℕ) (count : Count) → Consumes unread unread_new script → IsAtEnd unread_new → bytes ≡ script → RunsText written written_new Quiet limits bytes realm tally →
      IsShown view limits realm.history (stamps_of_script limits bytes) text × (count ≡ count_in tally realm.history) → Showed unread unread_new limits view text count
  shown view script bytes realm tally text count read all same run is = record {
    script = script;
    read = read;
    all = all;
    is = subst (λ (b : List ℕ). IsShown view limits (realm_of_script limits b).history (stamps_of_script limits b) text) same (subst (λ (r : Realm). IsShown view limits r.history (stamps_of_script limits bytes) text) run.left is.0);
    counted = count_is limits bytes realm tally count run.left run.counted is.1 ∙ ap (count_of_script limits) same;
  }

  pub dumped : (realm : Realm) (tally : Tally) (text : List ℕ) (count : Count) → RunsTallied unread unread_new written written_new Quiet limits realm tally → (text ≡ dump_text realm.history ++ 10 ∷ []) × (count ≡ count_in tally realm.history)
      → Showed unread unread_new limits Dump text count
  dumped realm tally text count run is = record {
    script = run.ends.script;
    read = run.ends.read;
    all = run.ends.all;
    is = is.0 ∙ ap (λ (r : Realm). dump_text r.history ++ 10 ∷ []) run.ends.left;
    counted = count_is limits run.ends.script realm tally count run.ends.left run.counted is.1;
  }

  pub text_unwritten : (script : List ℕ) → AppendsPart written written_new (shown_bytes Quiet (replies_of limits script)) → Appends written written_new []
  text_unwritten script part = subst (Appends written written_new) (no_part part.part part.rest part.whole) part.appended

  pub read_all : (realm : Realm) (tally : Tally) → RunsTallied unread unread_new written written_new Quiet limits realm tally → ReadSome unread unread_new
  read_all realm tally run = record { bytes = run.ends.script; read = run.ends.read }

  pub read_part : RunsPartly unread unread_new written written_new Quiet limits → ReadSome unread unread_new
  read_part run = record { bytes = run.script; read = run.read }

  pub unwritten : RunsPartly unread unread_new written written_new Quiet limits → Appends written written_new []
  unwritten run = subst (Appends written written_new) (no_part run.replied.part run.replied.rest run.replied.whole) run.replied.appended
