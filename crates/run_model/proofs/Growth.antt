-- What a looper's acts have caused stays so where its queue's history grows.
use Rattle.std.proofs.Common.{◌≡◌, ℕ, zero, suc, true, false, List, [], ◌∷◌, ◌++◌, Option, refl, sym, ap, ◌∙◌, subst}
use Rattle.std.specs.Prelude.{◌||◌, not, slice_get, is_some}
use Rattle.std.proofs.lemmas.List.Elements.{filter_map-append}
use Rattle.std.specs.Option.{option_map_or}
use Rattle.loop_model.specs.declared.entry.Entry.{Entry}
use Rattle.loop_model.specs.Posts.{accepted_post, accepted_posts, post_at}
use Rattle.frame_phases.specs.declared.entry.FrameEntry.{FrameEntry}
use Rattle.dash_script.specs.declared.script.Script.{Script}
use Rattle.loop_model.specs.declared.journal.Act.{Act}
use Rattle.loop_model.specs.declared.journal.Act.TheVariants.{Dispatch, Idle, Event, Vsync, Paint}
use Rattle.run_model.specs.Loopers.{LooperState, starts_frame, dispatched, after_act, MayCome, ActsLead}

pub slice_get-append : {X : Type 0} (xs ys : List X) (i : ℕ) → is_some (slice_get xs i) ≡ true → slice_get (xs ++ ys) i ≡ slice_get xs i
slice_get-append [] ys i h = cc
slice_get-append (x ∷ xs) ys zero h = refl
slice_get-append (x ∷ xs) ys (suc i) h = slice_get-append xs ys i h

-- an accepted post keeps its number
pub post_at-grows : (es more : List Entry) (n : ℕ) → is_some (post_at es n) ≡ true → post_at (es ++ more) n ≡ post_at es n
post_at-grows es more n h =
    ap (λ l. slice_get l n) (filter_map-append accepted_post es more) ∙ slice_get-append (accepted_posts es) (accepted_posts more) n h

module _ (s : Script) (q : ℕ) (es : List Entry) (fs : List FrameEntry) where
  after_act-entries : (more : List Entry) (frame : Option ℕ) (a : LooperState) (x : Act) → MayCome s q es fs frame a x → after_act s q (es ++ more) fs frame a x ≡ after_act s q es fs frame a x
  unfolding after_act
  after_act-entries more frame a (Dispatch n now route) h =
      ap (λ o. record (dispatched s q fs frame n now a o) { painted = [] }) (post_at-grows es more n h.accepted)
  after_act-entries more frame a (Vsync stamp) h = refl
  after_act-entries more frame a (Paint g v) h = refl
  after_act-entries more frame a (Idle i k) h = refl
  after_act-entries more frame a (Event f e m) h = refl

  MayCome-entries : (more : List Entry) (frame : Option ℕ) (a : LooperState) (x : Act) → MayCome s q es fs frame a x → MayCome s q (es ++ more) fs frame a x
  MayCome-entries more frame a (Dispatch n now route) h =
      let same = post_at-grows es more n h.accepted in
      record {
        accepted = ap is_some same ∙ h.accepted;
        starts = subst (λ o. (not (is_some frame) || option_map_or (starts_frame q) o false) ≡ true) (sym same) h.starts;
        awaited = h.awaited;
        place = h.place;
        stamped = h.stamped;
        painted = subst (λ o. (dispatched s q fs frame n now a o).painted ≡ a.painted) (sym same) h.painted;
      }
  MayCome-entries more frame a (Vsync stamp) h = h
  MayCome-entries more frame a (Paint g v) h = h
  MayCome-entries more frame a (Idle i k) h = h
  MayCome-entries more frame a (Event f e m) h = h

  -- more entries on the queue change nothing
  pub ActsLead-entries : (more : List Entry) (a : LooperState) (xs : List Act) (b : LooperState) → ActsLead s q es fs a xs b → ActsLead s q (es ++ more) fs a xs b
  ActsLead-entries more a [] b h = h
  ActsLead-entries more a (x ∷ xs) b h =
      (h.0, (MayCome-entries more h.0 a x h.1.0, subst (λ c. ActsLead s q (es ++ more) fs c xs b) (sym (after_act-entries more h.0 a x h.1.0)) (ActsLead-entries more (after_act s q es fs h.0 a x) xs b h.1.1)))
