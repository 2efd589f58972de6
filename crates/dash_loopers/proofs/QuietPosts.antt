-- What a posted frame callback keeps of its pass.
use Rattle.std.proofs.Common.{◌≡◌, ℕ, Bool, true, Option, Some, None, List, [], ◌∷◌, ◌++◌, refl, sym, ap, ◌∙◌, subst, inl, inr}
use Rattle.std.specs.Prelude.{◌/◌, nat_lt, Result, Ok, Err, OnOk, OnErr}
use mathlib.Core.List.{IsPrefix}
use Rattle.loop_model.proofs.Prefixes.{prefix_self, prefix_trans}
use Rattle.loop_model.specs.declared.memory.NoMemory.{NoMemory}
use Rattle.frame_phases.specs.declared.entry.FrameEntry.TheVariants.{Posted}
use Rattle.frame_phases.specs.Pulses.{pulse}
use Rattle.frame_phases.specs.State.{Frames, with_entry, next_callback}
use Rattle.choreographer.specs.declared.state.StampedFrames.{StampedFrames}
use Rattle.choreographer.specs.declared.host.Sending.{Sending}
use Rattle.choreographer.specs.declared.hosted.Placed.{Placed}
use Rattle.choreographer.specs.declared.hosted.Placed.TheVariants as placed
use Rattle.choreographer.specs.Frame.{GrowsQuietly}
use Rattle.choreographer.specs.Turn.{awaits_frame}
use Rattle.choreographer.specs.Known.{Pass, IfAlone, IsFrameTurn}
use Rattle.choreographer.specs.Steps.{posting_moment}
use Rattle.choreographer.specs.Calls.{PostedBy, due_at, with_post}
use Rattle.choreographer.proofs.InTime.{turn_sees}
use Rattle.choreographer.proofs.Parts.{kept_if, turn_still_in_frame}
use Rattle.choreographer.proofs.Quiet.{quiet-append, grows_self, grows_trans}
use Rattle.choreographer.proofs.Waits.{post_waits}
use Rattle.dash_hall.proofs.Badges.{frame_turn_badge}
use Rattle.dash_hall.specs.declared.host.Host.{Host}
use Rattle.dash_hall.specs.Hosts.{PlacesBy, PlacesNot, IsHostNow, IsSameHost}
use Rattle.dash_hall.specs.Kits.{FrameBadge, frame_badge_of}
use Rattle.dash_loopers.specs.declared.player.Parts.{Parts}
use Rattle.dash_loopers.specs.Loopers.{MayAwait}
use Rattle.dash_loopers.specs.Played.{MayTell}
use Rattle.dash_loopers.specs.Steps.{PostsOn, PostsByHost}
use Rattle.dash_loopers.proofs.LatestPulses.{turn_keeps_latest}

-- a turn that records quiet entries alone, and leaves the stamp and whether a frame is to begin, keeps all that a post does
module _ (before after : Pass) (x y : StampedFrames) (turn : IsFrameTurn before after x y) (same : y.frames.phases ≡ x.frames.phases) (quietly : GrowsQuietly x.frames.entries y.frames.entries) where
  turn_posts_on : y.stamp ≡ x.stamp → awaits_frame y ≡ awaits_frame x → PostsOn before after
  turn_posts_on stamp awaits = record {
    badge = frame_turn_badge before after x y turn;
    seen = prefix_trans before.view.seen x.frames.entries after.view.seen turn.begins.0 (subst (IsPrefix x.frames.entries) (sym turn.seen) turn.grows);
    latest = turn_keeps_latest before after x y turn stamp awaits;
    quiet = λ c e named. (let s = turn_sees before after x y quietly.0 turn quietly.1 c e named in (s.0 ++ quietly.0, s.1, quiet-append s.0 quietly.0 s.2 quietly.2));
    frame = turn_still_in_frame before after x y turn same quietly;
  }

-- one turn that posts a callback
with_post_on : (before after : Pass) (x y : StampedFrames) (phase due id : ℕ) (token : Option ℕ) (now : ℕ) → IsFrameTurn before after x y → y ≡ with_post x phase due id token now → PostsOn before after
with_post_on before after x y phase due id token now turn is =
    let t = with_entry x.frames (Posted (next_callback x.frames phase due id token)) in
    let moment = posting_moment x due now in
    let late = nat_lt (moment / 1000000) due in
    let asked : Option ℕ = Some (pulse x.frames.interval moment) in
    turn_posts_on before after x y turn
    (ap (λ (z : StampedFrames). z.frames.phases) is ∙ kept_if (λ (f : Frames). f.phases) t late x.frames.scheduled asked refl)
    (Posted (next_callback x.frames phase due id token) ∷ [], sym (ap (λ (z : StampedFrames). z.frames.entries) is ∙ kept_if (λ (f : Frames). f.entries) t late x.frames.scheduled asked refl), tt)
    (ap (λ (z : StampedFrames). z.stamp) is) (post_waits x y phase due id token now is).awaits

-- one turn that changes nothing
unchanged_on : (before after : Pass) (x y : StampedFrames) → IsFrameTurn before after x y → y ≡ x → PostsOn before after
unchanged_on before after x y turn is =
    turn_posts_on before after x y turn (ap (λ (z : StampedFrames). z.frames.phases) is) (subst (λ (z : StampedFrames). GrowsQuietly x.frames.entries z.frames.entries) (sym is) (grows_self x.frames.entries))
    (ap (λ (z : StampedFrames). z.stamp) is) (ap awaits_frame is)

-- a posting, however it was placed
posted_on : (before after : Pass) (is_moment : ℕ → Bool) (sends sends' : List Sending) (phase id : ℕ) (token : Option ℕ) (delay : ℕ) (r : Placed) → PostedBy before after is_moment sends sends' phase id token delay r → PostsOn before after
posted_on before after is_moment sends sends' phase id token delay placed.Asked (x, y, now, turn, moment, by) = with_post_on before after x y phase (due_at now delay) id token now turn by.1
posted_on before after is_moment sends sends' phase id token delay placed.Already (x, y, now, turn, moment, by) = with_post_on before after x y phase (due_at now delay) id token now turn by.1
posted_on before after is_moment sends sends' phase id token delay placed.Sent (x, y, now, turn, moment, by) = with_post_on before after x y phase (due_at now delay) id token now turn by.1
posted_on before after is_moment sends sends' phase id token delay placed.Refused (x, y, now, turn, moment, by) = with_post_on before after x y phase (due_at now delay) id token now turn by.1
posted_on before after is_moment sends sends' phase id token delay placed.NoMemory (x, y, now, turn, moment, by) = elim by.1 [
  | inl none ↦ unchanged_on before after x y turn none
  | inr later ↦ with_post_on before after x y phase (due_at now delay) id token now turn later.1
]

-- a host's posting, whether it found memory or not
pub placed_on : (r : Result Unit NoMemory) (before after : Pass) (u : ℕ) (sends sends' : List Sending) (phase id delay : ℕ) → OnOk r (PlacesBy before after u sends sends' phase id delay) → OnErr r (PlacesNot before after u sends sends' phase id delay)
    → PostsOn before after
placed_on (Ok done) before after u sends sends' phase id delay by none = posted_on before after _ sends sends' phase id None delay by.0 by.2
placed_on (Err e) before after u sends sends' phase id delay by none = posted_on before after _ sends sends' phase id None delay none.0 none.2

-- ---- steps one behind the other

-- what holds where the pass alone delivers pulses as it is later holds so as it is now
pub alone_on : (before after : Pass) (P : Type 0) → frame_badge_of after ≡ frame_badge_of before → IfAlone after P → IfAlone before P
alone_on before after P badge h = λ c e named. h c (ap (λ (b : FrameBadge). b.constants) badge ∙ e) (named ∙ ap (λ (b : FrameBadge). Some b.number) (sym badge))

-- nothing was posted, and then by two steps one behind the other
posts_none : (p : Pass) → PostsOn p p
posts_none p = record { badge = refl; seen = prefix_self p.view.seen; latest = λ stamp awaits has. has; quiet = λ c e named. grows_self p.view.seen; frame = λ phases next inside. (inside, refl) }

posts_then : (before middle after : Pass) → PostsOn before middle → PostsOn middle after → PostsOn before after
posts_then before middle after f g = record {
  badge = g.badge ∙ f.badge;
  seen = prefix_trans before.view.seen middle.view.seen after.view.seen f.seen g.seen;
  latest = λ stamp awaits has. g.latest stamp awaits (f.latest stamp awaits has);
  quiet = λ c e named. grows_trans before.view.seen middle.view.seen after.view.seen (f.quiet c e named) (alone_on before middle _ f.badge g.quiet c e named);
  frame = λ phases next inside. (let here = f.frame phases next inside in let there = g.frame phases next here.0 in (there.0, there.1 ∙ here.1));
}

-- a host's call that posts nothing
pub root_stays : {R U : Type 0} (host host' : Host R U) (p : Pass) → IsHostNow host' → IsSameHost host host' → PostsByHost host host' p p
root_stays host host' p ready same = record { ready = ready; origin = same; posts = posts_none p }

pub root_then : {R U : Type 0} (host middle after : Host R U) (p p' p'' : Pass) → PostsByHost host middle p p' → PostsByHost middle after p' p'' → PostsByHost host after p p''
root_then host middle after p p' p'' f g = record { ready = g.ready; origin = g.origin ∙ f.origin; posts = posts_then p p' p'' f.posts g.posts }

-- what may be told of the host's moment may be told of it then
pub tells_then : {R U : Type 0} (host host' : Host R U) (lockstep : Bool) (at : ℕ) → IsSameHost host host' → MayTell lockstep host.now at → MayTell lockstep host'.now at
tells_then host host' lockstep at same may = λ on. may on ∙ sym (ap (λ o. o.now) same)

-- posts leave whether the looper awaits a frame that its pass knows of
pub posts_may_await : (before after : Parts) → PostsOn before.frames after.frames → after.awaits ≡ before.awaits → MayAwait before → MayAwait after
posts_may_await before after p same may waits c e named =
    let constants = ap (λ (b : FrameBadge). b.constants) (sym p.badge) ∙ e in
    let alone = named ∙ ap (λ (b : FrameBadge). Some b.number) p.badge in
    (p.latest before.frames.view.stamp true (record { key = c; constants = constants; alone = alone; has = refl; waits = may (sym same ∙ waits) c constants alone })).waits
