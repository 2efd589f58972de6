-- Passes of choreographers that hear each other.
use Rattle.std.proofs.Common.{◌≡◌, ℕ, ◌<◌, Some, List, map, length, set, get_or, refl, sym, ap, ◌∙◌, subst}
use Rattle.std.proofs.lemmas.List.{get_or-set_same, get_or-set_other, get_or_default, length-set, set-get_or}
use mathlib.Core.List.{IsPrefix}
use mathlib.Core.Logic.{dite}
use native.Mathlib.Decide.{ℕ_discrete}
use Rattle.frame_phases.specs.declared.entry.FrameEntry.{FrameEntry}
use Rattle.loop_model.proofs.Prefixes.{prefix_self, prefix_trans}
use Rattle.choreographer.specs.Known.{SharedFrames, Pass, IsPassOf, HasOnlyHeard}
use Rattle.choreographer.proofs.Quiet.{grows_self, grows_trans}
use Rattle.dash_hall.specs.Kits.{frame_badge_of}
use Rattle.dash_hall.specs.Hearing.{PassHasHeard, PassesHaveHeard, HasHeardAll, PassesHaveHeardAt, ArePassesReady, ArePassesKnown}
use Rattle.dash_hall.proofs.Hearing.{map_alike}
use Rattle.dash_hall.proofs.Sharing.{each_then, each_self}

-- a pass as it is
pub pass_heard_self : (p : Pass) → PassHasHeard p p
pass_heard_self p = record {
  same = record { table = refl; number = refl; constants = refl; turns = refl; found = refl; left = refl; frame = refl; own = refl; handed = refl; stamp = refl; awaits = refl; asks = refl; quiet = λ c e named. grows_self p.view.seen };
  seen = prefix_self p.view.seen;
  more = prefix_self p.view.heard;
}

-- a pass that is the same and has heard more
pub pass_heard : (p q : Pass) → HasOnlyHeard p q → IsPrefix p.view.seen q.view.seen → IsPrefix p.view.heard q.view.heard → PassHasHeard p q
pass_heard p q same seen more = record { same = same; seen = seen; more = more }

-- one after the other
pub pass_heard_then : (p q r : Pass) → PassHasHeard p q → PassHasHeard q r → PassHasHeard p r
pass_heard_then p q r f g = record {
  same = record {
    table = g.same.table ∙ f.same.table;
    number = g.same.number ∙ f.same.number;
    constants = g.same.constants ∙ f.same.constants;
    turns = g.same.turns ∙ f.same.turns;
    found = g.same.found ∙ f.same.found;
    left = g.same.left ∙ f.same.left;
    frame = g.same.frame ∙ f.same.frame;
    own = g.same.own ∙ f.same.own;
    handed = g.same.handed ∙ f.same.handed;
    stamp = g.same.stamp ∙ f.same.stamp;
    awaits = g.same.awaits ∙ f.same.awaits;
    asks = g.same.asks ∙ f.same.asks;
    quiet = λ c e named. grows_trans p.view.seen q.view.seen r.view.seen (f.same.quiet c e named) (g.same.quiet c (f.same.constants ∙ e) (named ∙ ap Some (sym f.same.number)));
  };
  seen = prefix_trans p.view.seen q.view.seen r.view.seen f.seen g.seen;
  more = prefix_trans p.view.heard q.view.heard r.view.heard f.more g.more;
}

-- it keeps its badge
pub pass_heard_badge : (p q : Pass) → PassHasHeard p q → frame_badge_of q ≡ frame_badge_of p
pass_heard_badge p q h = λ i. record { table = h.same.table i; constants = h.same.constants i; number = h.same.number i }

-- passes as they are
pub passes_heard_self : (ps : List Pass) → PassesHaveHeard ps ps
passes_heard_self ps = each_self PassHasHeard ps pass_heard_self

-- one after the other, for each pass
pub passes_heard_then : (ps qs rs : List Pass) → PassesHaveHeard ps qs → PassesHaveHeard qs rs → PassesHaveHeard ps rs
passes_heard_then ps qs rs f g = each_then PassHasHeard PassHasHeard PassHasHeard ps qs rs pass_heard_then f g

-- the passes keep their badges
pub passes_heard_badges : (ps qs : List Pass) → PassesHaveHeard ps qs → map frame_badge_of qs ≡ map frame_badge_of ps
passes_heard_badges ps qs h = sym (map_alike frame_badge_of ps qs (sym h.long) (λ k d lt. sym (pass_heard_badge (get_or ps k d) (get_or qs k d) (h.each k d lt))))

-- one of the passes heard another one
pub passes_heard_at : (ps : List Pass) (i : ℕ) (p q : Pass) (whole : List (ℕ × FrameEntry)) → i < length ps → p ≡ get_or ps i p → PassHasHeard p q → HasHeardAll whole q → PassesHaveHeardAt i whole ps (set ps i q)
passes_heard_at ps i p q whole lt is h e = record {
  heard = record {
    long = length-set ps i q;
    each = λ k d near. dite (ℕ_discrete k i)
        (λ at.
        let before : p ≡ get_or ps i d = is ∙ get_or_default ps i p d lt in
        let after : q ≡ get_or (set ps i q) i d = sym (get_or-set_same ps i q d lt) in
        subst (λ (n : ℕ). PassHasHeard (get_or ps n d) (get_or (set ps i q) n d)) (sym at) (subst (λ (z : Pass × Pass). PassHasHeard z.0 z.1) (λ j. (before j, after j)) h))
        (λ not. subst (PassHasHeard (get_or ps k d)) (sym (get_or-set_other ps i k q d not)) (pass_heard_self (get_or ps k d)));
  };
  here = λ d near. subst (HasHeardAll whole) (sym (get_or-set_same ps i q d lt)) e;
  elsewhere = λ k d not. get_or-set_other ps i k q d not;
}

-- a pass that is put back where it was
pub pass_kept_at : (ps : List Pass) (i : ℕ) (p q : Pass) → p ≡ get_or ps i p → q ≡ p → set ps i q ≡ ps
pass_kept_at ps i p q is same = ap (λ (x : Pass). set ps i x) (same ∙ is) ∙ set-get_or ps i p

-- what is known of the pass at a place
pub pass_known_at : (ps : List Pass) (i : ℕ) (p : Pass) (whole : List (ℕ × FrameEntry)) → i < length ps → p ≡ get_or ps i p → IsPrefix p.view.heard whole → ArePassesKnown i whole ps
pass_known_at ps i p whole lt is k = λ d. subst (λ (x : Pass). IsPrefix x.view.heard whole) (is ∙ get_or_default ps i p d lt) k

-- more is known
pub passes_known_more : (ps : List Pass) (i : ℕ) (xs ys : List (ℕ × FrameEntry)) → IsPrefix xs ys → ArePassesKnown i xs ps → ArePassesKnown i ys ps
passes_known_more ps i xs ys p k = λ d. prefix_trans (get_or ps i d).view.heard xs ys (k d) p

-- a pass that was read at a place is of the choreographer
pub pass_ready_is : (ps : List Pass) (i : ℕ) (p : Pass) (c : SharedFrames) → ArePassesReady i c ps → p ≡ get_or ps i p → IsPassOf p c
pass_ready_is ps i p c r is = subst (λ (x : Pass). IsPassOf x c) (sym is) (r.1 p)

-- what is known of a pass that was read at a place
pub pass_known_is : (ps : List Pass) (i : ℕ) (p : Pass) (whole : List (ℕ × FrameEntry)) → ArePassesKnown i whole ps → p ≡ get_or ps i p → IsPrefix p.view.heard whole
pass_known_is ps i p whole k is = subst (λ (x : Pass). IsPrefix x.view.heard whole) (sym is) (k p)
