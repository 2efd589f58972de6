-- How a view root stands after each of its steps.
use Rattle.std.proofs.Common.{◌≡◌, ◌≢◌, ℕ, suc, ◌+◌, ◌-◌, ◌^◌, ◌<◌, ◌≤◌, ◌==◌, min, Bool, true, false, not, List, [], ◌∷◌, ◌++◌, map, length, Option, Some, None, is_some, refl, sym, ap, ◌∙◌, subst, arith, eq-eqb, ne_eqb, Vec, Global}
use Rattle.std.specs.Prelude.{◌||◌, replicate, slice_get, slice_index, slice_index_or, slice_set, take, Result, Ok, Err, OnOk, nat_le, if◌then◌else◌}
use Rattle.std.specs.List.{flat_map, filter_map, cons_option, enumerate_from}
use Rattle.std.specs.Option.{option_map, option_map_or}
use Rattle.std.proofs.lemmas.List.{append-nil, map-append, map-set, length-append, length-map, length-take-le, take_all, take_more, flat_map_more, get_or_default}
use Rattle.std.proofs.lemmas.Option.{slice_get-map, get_or_from_slice_get, slice_get_within}
use Rattle.std.proofs.Math.Seq.{map-set_same}
use Rattle.std.proofs.lemmas.Bool.{le-leb}
use Rattle.loop_model.specs.declared.call.Call.TheVariants.{Barrier, Unbarrier}
use Rattle.loop_model.specs.declared.entry.Entry.{Entry}
use Rattle.loop_model.specs.declared.journal.Act.{Act}
use Rattle.loop_model.specs.declared.journal.Act.TheVariants.{Paint}
use Rattle.dash_script.specs.declared.script.GaugeLine.{GaugeLine}
use Rattle.dash_script.specs.declared.script.Script.{Script}
use Rattle.dash_script.specs.Reading.{HasText}
use Rattle.looper_run.specs.Holding.{Sender}
use Rattle.choreographer.specs.Known.{Pass}
use Rattle.run_model.specs.Planned.{Ask, Makes as Asks, Unbars, bare_call, call_of, AreFor, looper_of, gauge_line, gauge_looper, animation_id, animation_phase}
use Rattle.run_model.specs.Planned.{traversal_id, traversal_phase, frame_due}
use Rattle.run_model.specs.AskedSoFar.{tokens_in}
use Rattle.run_model.specs.Control.{At}
use Rattle.run_model.specs.Loopers.{LooperState, GaugeState, SentCall, and_sends, and_posts_frame, with_gauge, traversal_requested, target_set, object_set, gauge_moved}
use Rattle.run_model.specs.Loopers.{stepped_towards, paints, traversal_ran, callback_ran, IsSent}
use Rattle.run_model.specs.Parts.{animation_ran, sent_on}
use Rattle.run_model.proofs.RunLaws.{AreFor-snoc}
use Rattle.message_pool.specs.Passes.{Tally}
use Rattle.dash_hall.specs.Growth.{Makes, GoesOn}
use Rattle.dash_hall.specs.Hosts.{PlacesBy, sends_by, pass_asks}
use Rattle.run_model.specs.FrameRecords.{Posts, as_told}
use Rattle.dash_hall.proofs.FramePosts.{posts_frame_by}
use Rattle.dash_loopers.specs.declared.view_root.Gauge.{Gauge as ViewGauge}
use Rattle.dash_loopers.specs.declared.view_root.Painted.{Painted}
use Rattle.dash_loopers.specs.declared.view_root.ViewRoot.{ViewRoot}
use Rattle.dash_loopers.specs.Played.{standing, gauge_fixed, fixed_by, IsBarrierOf, paint_of, paint_of_gauge, IsRootOf, calls_of, IsShown, StepsRoot, MayTell}
use Rattle.dash_loopers.specs.Places.{animated, HasGauges, HasPainted}
use Rattle.dash_loopers.proofs.LooperLists.{at_seam}
use Rattle.dash_loopers.proofs.MoreCalls.{calls_more, calls_same, tokens_more, sent_here}

-- ---- calls

-- what an answer brings of each script's looper under a fact is brought by it
pub ok_within : {A E : Type 0} (r : Result A E) (P R : Script → ℕ → Type 0) → ((s : Script) (q : ℕ) → HasText s → P s q → OnOk r (R s q)) → OnOk r ((s : Script) (q : ℕ) → HasText s → P s q → R s q)
ok_within (Ok x) P R f = f
ok_within (Err e) P R f = tt

-- the call on the own queue that the state was to make was made
pub sent_more : (q now : ℕ) (ask : Ask) (a : LooperState) (made : List Entry) (e : Entry) → AreFor IsSent [] (sent_on q a.sent) made → bare_call e.call ≡ call_of (tokens_in made) ask
    → AreFor IsSent [] (sent_on q (and_sends q now ask a).sent) (made ++ e ∷ [])
sent_more q now ask a made e h is =
    let x : SentCall = record { queue = q; ask = ask; reply = None; timing = At now } in
    subst (λ (l : List SentCall). AreFor IsSent [] l (made ++ e ∷ [])) (sym (sent_here q a.sent x refl)) (AreFor-snoc IsSent (sent_on q a.sent) x made e h (record { call = is; reply = tt }))

length_more : (ts : List ℕ) (t n : ℕ) → n ≡ length ts → n + 1 ≡ length (ts ++ t ∷ [])
length_more ts t n is = ap (λ (k : ℕ). k + 1) is ∙ sym (length-append ts (t ∷ []))

-- ---- barriers

pub barrier_alike : (tokens : List ℕ) (o r : Option ℕ) → IsBarrierOf tokens o r → is_some o ≡ is_some r
barrier_alike tokens None None h = refl
barrier_alike tokens (Some k) (Some t) h = refl
barrier_alike tokens None (Some t) h = absurd h
barrier_alike tokens (Some k) None h = absurd h

-- a barrier was posted
pub barrier_posted : (lockstep : Bool) (s : Script) (q now : ℕ) (p p' : Sender) (token : ℕ) (pass : Pass) (root : ViewRoot) (a : LooperState) → Makes p p' (Barrier 0) (token ∷ []) → IsShown lockstep s q (calls_of p) pass root a
    → IsShown lockstep s q (calls_of p') pass (record root { barrier = Some token }) (and_sends q now (Asks (Barrier 0)) (record a { barrier = Some a.barriers; barriers = a.barriers + 1 }))
barrier_posted lockstep s q now p p' token pass root a m h =
    let b = record a { barrier = Some a.barriers; barriers = a.barriers + 1 } in
    let made = calls_of p in
    let before = tokens_in made in
    let tokens : tokens_in (made ++ m.entry ∷ []) ≡ before ++ token ∷ [] = tokens_more made m.entry (token ∷ []) m.answered in
    let count : a.barriers ≡ length before = h.stands.barriers in
    let more : a.barriers + 1 ≡ length (tokens_in (made ++ m.entry ∷ [])) = length_more before token a.barriers count ∙ ap length (sym tokens) in
    let got : slice_get (tokens_in (made ++ m.entry ∷ [])) a.barriers ≡ Some token = (λ i. slice_get (tokens i) (count i)) ∙ at_seam before token [] in
    subst (λ (l : List Entry). IsShown lockstep s q l pass (record root { barrier = Some token }) (and_sends q now (Asks (Barrier 0)) b)) (sym (calls_more p p' (Barrier 0) (token ∷ []) refl m)) (record {
      calls = sent_more q now (Asks (Barrier 0)) b made m.entry h.calls m.makes;
      asked = h.asked;
      stands = record { edition = h.stands.edition; gauges = h.stands.gauges; lines = h.stands.lines; barrier = got; barriers = more; painted = h.stands.painted };
    })

-- one is due at a moment as it is told at each time that a run may tell of that moment
due_as_told : (lockstep : Bool) (u at : ℕ) → MayTell lockstep u at → (if lockstep then frame_due u 0 else 0) ≡ (if lockstep then frame_due at 0 else 0)
due_as_told true u at may = ap (λ (n : ℕ). frame_due n 0) (sym (may refl))
due_as_told false u at may = refl

-- a frame callback was posted for now, by what a host's posting answers
pub frame_placed : (lockstep : Bool) (s : Script) (q h h' u at phase id : ℕ) (p p' : Sender) (t t' : Tally) (pass pass' : Pass) (root : ViewRoot) → h' ≡ h → GoesOn p p' t t' → MayTell lockstep u at
    → PlacesBy pass pass' u (sends_by h p) (sends_by h' p') phase id 0 → StepsRoot lockstep s q (and_posts_frame at phase id) (calls_of p) pass root (calls_of p') pass' root
frame_placed lockstep s q h h' u at phase id p p' t t' pass pass' root same on may placed text a shown =
    let by : PlacesBy pass pass' u (sends_by h p) (sends_by h p') phase id 0 = subst (λ (n : ℕ). PlacesBy pass pass' u (sends_by h p) (sends_by n p') phase id 0) same placed in
    let posts = posts_frame_by h u phase id 0 p p' t t' pass pass' on by in
    let tell = as_told lockstep in
    let asked : map tell (pass_asks pass') ≡ map tell (a.asked ++ Posts phase (frame_due at 0) id None ∷ []) =
    ap (map tell) posts.asks ∙ (map-append tell (pass_asks pass) (Posts phase (frame_due u 0) id None ∷ [])
    ∙ ((λ i. shown.asked i ++ Posts phase (due_as_told lockstep u at may i) id None ∷ []) ∙ sym (map-append tell a.asked (Posts phase (frame_due at 0) id None ∷ [])))) in
    subst (λ (l : List Entry). IsShown lockstep s q l pass' root (and_posts_frame at phase id a)) (sym (calls_same p p' posts.calls)) (record {
      calls = shown.calls;
      asked = asked;
      stands = record { edition = shown.stands.edition; gauges = shown.stands.gauges; lines = shown.stands.lines; barrier = shown.stands.barrier; barriers = shown.stands.barriers; painted = shown.stands.painted };
    })

-- a traversal is requested while none is under way
pub requested_anew : (lockstep : Bool) (s : Script) (q now phase : ℕ) (p p' : Sender) (token : ℕ) (made : List Entry) (pass pass' : Pass) (root root' : ViewRoot) → is_some root.barrier ≡ false
    → Makes p p' (Barrier 0) (token ∷ []) → (root.edition ≡ s.edition → phase ≡ traversal_phase s) → StepsRoot lockstep s q (and_posts_frame now phase 1000016) (calls_of p') pass (record root { barrier = Some token }) made pass' root'
    → StepsRoot lockstep s q (traversal_requested s q now) (calls_of p) pass root made pass' root'
requested_anew lockstep s q now phase p p' token made pass pass' root root' none m of_edition rest text a h =
    let b = and_sends q now (Asks (Barrier 0)) (record a { barrier = Some a.barriers; barriers = a.barriers + 1 }) in
    let still : is_some a.barrier ≡ false = barrier_alike (tokens_in (calls_of p)) a.barrier root.barrier h.stands.barrier ∙ none in
    subst (λ (t : Bool). IsShown lockstep s q made pass' root' (if t then a else and_posts_frame now (traversal_phase s) traversal_id b)) (sym still)
    (subst (λ (n : ℕ). IsShown lockstep s q made pass' root' (and_posts_frame now n traversal_id b)) (of_edition h.stands.edition) (rest text b (barrier_posted lockstep s q now p p' token pass root a m h)))

-- ---- gauges

of_some : {X Y : Type 0} (f : X → Y) (o : Option X) (y : Y) → option_map f o ≡ Some y → (x : X) × (o ≡ Some x) × (f x ≡ y)
of_some f None y is = absurd cc
of_some f (Some x) y is = (let same : f x ≡ y = cc is in (x, refl, same))

-- a gauge of a view root, and what the script and the state say of it
pub record IsGaugeOf (s : Script) (q g : ℕ) (v : ViewGauge) (a : LooperState) : Type 0 where
  pub stands : slice_get a.gauges g ≡ Some (standing v)
  pub own : v.own ≡ (gauge_looper s g == q)
  pub step : v.step ≡ (gauge_line s g).step
  pub within : g < length s.gauges

pub gauge_of : (s : Script) (q g : ℕ) (tokens : List ℕ) (v : ViewGauge) (root : ViewRoot) (a : LooperState) → slice_get root.gauges.items g ≡ Some v → IsRootOf s q tokens a root → IsGaugeOf s q g v a
gauge_of s q g tokens v root a at h =
    let read : slice_get (map standing root.gauges.items) g ≡ Some (standing v) = slice_get-map standing root.gauges.items g ∙ ap (option_map standing) at in
    let kept : slice_get (map gauge_fixed root.gauges.items) g ≡ Some (gauge_fixed v) = slice_get-map gauge_fixed root.gauges.items g ∙ ap (option_map gauge_fixed) at in
    let of_line : option_map (fixed_by s q) (slice_get s.gauges g) ≡ Some (gauge_fixed v) = sym (slice_get-map (fixed_by s q) s.gauges g) ∙ (ap (λ (l : List (Bool × ℕ)). slice_get l g) (sym h.lines) ∙ kept) in
    let found = of_some (fixed_by s q) (slice_get s.gauges g) (gauge_fixed v) of_line in
    let line : gauge_line s g ≡ found.0 = get_or_from_slice_get s.gauges g found.0 (record { handler = 0; step = 0 }) found.1 in
    record {
      stands = ap (λ (l : List GaugeState). slice_get l g) (sym h.gauges) ∙ read;
      own = ap (λ (x : Bool × ℕ). x.0) (sym found.2) ∙ ap (λ (l : GaugeLine). looper_of s l.handler == q) (sym line);
      step = ap (λ (x : Bool × ℕ). x.1) (sym found.2) ∙ ap (λ (l : GaugeLine). l.step) (sym line);
      within = slice_get_within s.gauges g found.0 found.1;
    }

-- a gauge was put in the place of one that is as much the looper's own and has its step
pub record IsPut (g : ℕ) (w : ViewGauge) (root root' : ViewRoot) : Type 0 where
  pub gauges : root'.gauges.items ≡ slice_set root.gauges.items g w
  pub same : (root'.barrier ≡ root.barrier) × (root'.painted ≡ root.painted) × (root'.edition ≡ root.edition)

pub gauge_put : (lockstep : Bool) (s : Script) (q g : ℕ) (v w : ViewGauge) (made : List Entry) (pass : Pass) (root root' : ViewRoot) (a : LooperState) → IsPut g w root root' → slice_get root.gauges.items g ≡ Some v → gauge_fixed w ≡ gauge_fixed v
    → IsShown lockstep s q made pass root a → IsShown lockstep s q made pass root' (with_gauge g (standing w) a)
gauge_put lockstep s q g v w made pass root root' a put at alike h = record {
  calls = h.calls;
  asked = h.asked;
  stands = record {
    edition = put.same.2 ∙ h.stands.edition;
    gauges = ap (map standing) put.gauges ∙ (map-set standing root.gauges.items g w ∙ ap (λ (l : List GaugeState). slice_set l g (standing w)) h.stands.gauges);
    lines = ap (map gauge_fixed) put.gauges ∙ (map-set_same gauge_fixed root.gauges.items g w v (alike ∙ ap gauge_fixed (sym (get_or_from_slice_get root.gauges.items g v v at))) ∙ h.stands.lines);
    barrier = subst (λ (o : Option ℕ). IsBarrierOf (tokens_in made) a.barrier o) (sym put.same.0) h.stands.barrier;
    barriers = h.stands.barriers;
    painted = ap (λ (x : Vec Painted Global). map paint_of x.items) put.same.1 ∙ h.stands.painted;
  };
}

-- ---- a message with an object

-- the gauge is another looper's
pub sets_no_other : (lockstep : Bool) (s : Script) (q now g target : ℕ) (v : ViewGauge) (made : List Entry) (pass : Pass) (root : ViewRoot) → slice_get root.gauges.items g ≡ Some v → v.own ≡ false → StepsRoot lockstep s q (object_set s q now g target) made pass root made pass root
sets_no_other lockstep s q now g target v made pass root at other text a h =
    let is = gauge_of s q g (tokens_in made) v root a at h.stands in
    let same : object_set s q now g target a ≡ a =
    ap (λ (b : Bool). if b then option_map_or (λ x. target_set s q now g target x a) (slice_get a.gauges g) a else a) (sym is.own ∙ other) in
    subst (IsShown lockstep s q made pass root) (sym same) h

-- the state's step is that of the gauge
sets_own : (lockstep : Bool) (s : Script) (q now g target : ℕ) (v : ViewGauge) (made : List Entry) (pass : Pass) (root : ViewRoot) (a : LooperState) → slice_get root.gauges.items g ≡ Some v → v.own ≡ true → IsShown lockstep s q made pass root a
    → object_set s q now g target a ≡ target_set s q now g target (standing v) a
sets_own lockstep s q now g target v made pass root a at mine h =
    let is = gauge_of s q g (tokens_in made) v root a at h.stands in
    ap (λ (b : Bool). if b then option_map_or (λ x. target_set s q now g target x a) (slice_get a.gauges g) a else a) (sym is.own ∙ mine)
    ∙ ap (λ (o : Option GaugeState). option_map_or (λ x. target_set s q now g target x a) o a) is.stands

-- the gauge with another target, as it is put
abbrev pub with_target : ℕ → ViewGauge → ViewGauge
with_target target v = record v { target = target; animating = v.animating || not (v.animating || (v.value == target)) }

rests_so : (b c : Bool) → (b || c) ≡ true → (b || not (b || c)) ≡ b
rests_so true c is = refl
rests_so false c is = ap not is

starts_so : (b c : Bool) → (b || c) ≡ false → (b || not (b || c)) ≡ true
starts_so true c is = refl
starts_so false c is = ap not is

-- the gauge moves already, or stands at the target
pub sets_target : (lockstep : Bool) (s : Script) (q now g target : ℕ) (v : ViewGauge) (made : List Entry) (pass : Pass) (root root' : ViewRoot) → slice_get root.gauges.items g ≡ Some v → v.own ≡ true → (v.animating || (v.value == target)) ≡ true
    → IsPut g (with_target target v) root root' → StepsRoot lockstep s q (object_set s q now g target) made pass root made pass root'
sets_target lockstep s q now g target v made pass root root' at mine rests put text a h =
    let x = standing v in
    let step : object_set s q now g target a ≡ with_gauge g (record x { target = target }) a =
    sets_own lockstep s q now g target v made pass root a at mine h
    ∙ ap (λ (b : Bool). if b then with_gauge g (record x { target = target }) a else traversal_requested s q now (and_posts_frame now animation_phase (animation_id g) (with_gauge g (record { value = x.value; target = target; animating = true }) a))) rests in
    let put_is : with_gauge g (standing (with_target target v)) a ≡ with_gauge g (record x { target = target }) a =
    ap (λ (b : Bool). with_gauge g (record { value = v.value; target = target; animating = b }) a) (rests_so v.animating (v.value == target) rests) in
    subst (IsShown lockstep s q made pass root') (put_is ∙ sym step) (gauge_put lockstep s q g v (with_target target v) made pass root root' a put at refl h)

-- the callback of a gauge's animation, by its number
abbrev pub capped : ℕ → ℕ
capped g = min (1000000 + g) (2 ^ 64 - 1)

few : (g n id : ℕ) → g < n → n ≤ 16 → id ≡ capped g → id ≡ animation_id g
few g n id lt most is = omega (arith, lt, most, is)

-- the gauge begins to move
pub sets_off : (lockstep : Bool) (s : Script) (q now g target id : ℕ) (v : ViewGauge) (made made1 made2 : List Entry) (pass pass1 pass2 : Pass) (root root1 root2 root3 : ViewRoot) → slice_get root.gauges.items g ≡ Some v → v.own ≡ true → (v.animating || (v.value == target)) ≡ false
    → IsPut g (with_target target v) root root1 → id ≡ capped g → StepsRoot lockstep s q (and_posts_frame now 1 id) made pass root1 made1 pass1 root2 → StepsRoot lockstep s q (traversal_requested s q now) made1 pass1 root2 made2 pass2 root3
    → StepsRoot lockstep s q (object_set s q now g target) made pass root made2 pass2 root3
sets_off lockstep s q now g target id v made made1 made2 pass pass1 pass2 root root1 root2 root3 at mine starts put is_id posts requests text a h =
    let x = standing v in
    let is = gauge_of s q g (tokens_in made) v root a at h.stands in
    let b = with_gauge g (record { value = v.value; target = target; animating = true }) a in
    let step : object_set s q now g target a ≡ traversal_requested s q now (and_posts_frame now 1 (animation_id g) b) =
    sets_own lockstep s q now g target v made pass root a at mine h
    ∙ ap (λ (t : Bool). if t then with_gauge g (record x { target = target }) a else traversal_requested s q now (and_posts_frame now 1 (animation_id g) b)) starts in
    let placed : IsShown lockstep s q made pass root1 b = subst (λ (t : Bool). IsShown lockstep s q made pass root1 (with_gauge g (record { value = v.value; target = target; animating = t }) a)) (starts_so v.animating (v.value == target) starts) (gauge_put lockstep s q g v (with_target target v) made pass root root1 a put at refl h) in
    let posted : IsShown lockstep s q made1 pass1 root2 (and_posts_frame now 1 (animation_id g) b) = subst (λ (n : ℕ). IsShown lockstep s q made1 pass1 root2 (and_posts_frame now 1 n b)) (few g (length s.gauges) id is.within text.gauges is_id) (posts text b placed) in
    subst (IsShown lockstep s q made2 pass2 root3) (sym step) (requests text (and_posts_frame now 1 (animation_id g) b) posted)

-- ---- an animation

animates : (lockstep : Bool) (s : Script) (q now g : ℕ) (v : ViewGauge) (made : List Entry) (pass : Pass) (root : ViewRoot) (a : LooperState) → slice_get root.gauges.items g ≡ Some v → IsShown lockstep s q made pass root a → animated s q now g a ≡ animation_ran s q now g (standing v) a
animates lockstep s q now g v made pass root a at h =
    ap (λ (o : Option GaugeState). option_map_or (λ x. animation_ran s q now g x a) o a) (gauge_of s q g (tokens_in made) v root a at h.stands).stands

-- the gauge stands still
pub animates_none : (lockstep : Bool) (s : Script) (q now g : ℕ) (v : ViewGauge) (made : List Entry) (pass : Pass) (root : ViewRoot) → slice_get root.gauges.items g ≡ Some v → v.animating ≡ false → StepsRoot lockstep s q (animated s q now g) made pass root made pass root
animates_none lockstep s q now g v made pass root at still text a h =
    let step : animated s q now g a ≡ a = animates lockstep s q now g v made pass root a at h ∙ ap (λ (b : Bool). if b then gauge_moved s q now g (standing v) a else a) still in
    subst (IsShown lockstep s q made pass root) (sym step) h

-- the gauge with another value, as it is put
abbrev pub with_move : ℕ → ViewGauge → ViewGauge
with_move n v = record v { value = n; animating = not (n == v.target) }

-- the state's step is that of the gauge, as it moves
moves : (lockstep : Bool) (s : Script) (q now g n : ℕ) (v : ViewGauge) (made : List Entry) (pass : Pass) (root : ViewRoot) (a : LooperState) → slice_get root.gauges.items g ≡ Some v → v.animating ≡ true → n ≡ stepped_towards v.step v.target v.value → IsShown lockstep s q made pass root a
    → animated s q now g a ≡ (if n == v.target then traversal_requested s q now (with_gauge g (record { value = n; target = v.target; animating = false }) a)
    else and_posts_frame now 1 (animation_id g) (traversal_requested s q now (with_gauge g (record { value = n; target = v.target; animating = v.animating }) a)))
moves lockstep s q now g n v made pass root a at on to h =
    let is = gauge_of s q g (tokens_in made) v root a at h.stands in
    let value : stepped_towards (gauge_line s g).step v.target v.value ≡ n = ap (λ (k : ℕ). stepped_towards k v.target v.value) (sym is.step) ∙ sym to in
    animates lockstep s q now g v made pass root a at h
    ∙ (ap (λ (b : Bool). if b then gauge_moved s q now g (standing v) a else a) on
    ∙ ap (λ (k : ℕ). if k == v.target then traversal_requested s q now (with_gauge g (record { value = k; target = v.target; animating = false }) a)
    else and_posts_frame now 1 (animation_id g) (traversal_requested s q now (with_gauge g (record { value = k; target = v.target; animating = v.animating }) a))) value)

-- the gauge comes to its target
pub animates_last : (lockstep : Bool) (s : Script) (q now g n : ℕ) (v : ViewGauge) (made made' : List Entry) (pass pass' : Pass) (root root1 root' : ViewRoot) → slice_get root.gauges.items g ≡ Some v → v.animating ≡ true → n ≡ stepped_towards v.step v.target v.value → n ≡ v.target
    → IsPut g (with_move n v) root root1 → StepsRoot lockstep s q (traversal_requested s q now) made pass root1 made' pass' root' → StepsRoot lockstep s q (animated s q now g) made pass root made' pass' root'
animates_last lockstep s q now g n v made made' pass pass' root root1 root' at on to there put requests text a h =
    let b = with_gauge g (record { value = n; target = v.target; animating = false }) a in
    let is : (n == v.target) ≡ true = eq-eqb n v.target there in
    let step : animated s q now g a ≡ traversal_requested s q now b =
    moves lockstep s q now g n v made pass root a at on to h
    ∙ ap (λ (t : Bool). if t then traversal_requested s q now b else and_posts_frame now 1 (animation_id g) (traversal_requested s q now (with_gauge g (record { value = n; target = v.target; animating = v.animating }) a))) is in
    let placed : IsShown lockstep s q made pass root1 b = subst (λ (t : Bool). IsShown lockstep s q made pass root1 (with_gauge g (record { value = n; target = v.target; animating = not t }) a)) is (gauge_put lockstep s q g v (with_move n v) made pass root root1 a put at refl h) in
    subst (IsShown lockstep s q made' pass' root') (sym step) (requests text b placed)

-- the gauge goes on
pub animates_on : (lockstep : Bool) (s : Script) (q now g n id : ℕ) (v : ViewGauge) (made made1 made2 : List Entry) (pass pass1 pass2 : Pass) (root root1 root2 root3 : ViewRoot) → slice_get root.gauges.items g ≡ Some v → v.animating ≡ true → n ≡ stepped_towards v.step v.target v.value → n ≢ v.target
    → IsPut g (with_move n v) root root1 → id ≡ capped g → StepsRoot lockstep s q (traversal_requested s q now) made pass root1 made1 pass1 root2 → StepsRoot lockstep s q (and_posts_frame now 1 id) made1 pass1 root2 made2 pass2 root3
    → StepsRoot lockstep s q (animated s q now g) made pass root made2 pass2 root3
animates_on lockstep s q now g n id v made made1 made2 pass pass1 pass2 root root1 root2 root3 at on to far put is_id requests posts text a h =
    let is = gauge_of s q g (tokens_in made) v root a at h.stands in
    let b = with_gauge g (record { value = n; target = v.target; animating = v.animating }) a in
    let isnt : (n == v.target) ≡ false = ne_eqb n v.target far in
    let step : animated s q now g a ≡ and_posts_frame now 1 (animation_id g) (traversal_requested s q now b) =
    moves lockstep s q now g n v made pass root a at on to h
    ∙ ap (λ (t : Bool). if t then traversal_requested s q now (with_gauge g (record { value = n; target = v.target; animating = false }) a) else and_posts_frame now 1 (animation_id g) (traversal_requested s q now b)) isnt in
    let placed : IsShown lockstep s q made pass root1 b = subst (λ (t : Bool). IsShown lockstep s q made pass root1 (with_gauge g (record { value = n; target = v.target; animating = t }) a)) (ap not isnt ∙ sym on) (gauge_put lockstep s q g v (with_move n v) made pass root root1 a put at refl h) in
    subst (IsShown lockstep s q made2 pass2 root3) (sym step)
    (subst (λ (k : ℕ). IsShown lockstep s q made2 pass2 root3 (and_posts_frame now 1 k (traversal_requested s q now b))) (few g (length s.gauges) id is.within text.gauges is_id) (posts text (traversal_requested s q now b) (requests text b placed)))

-- ---- a callback

-- the callback of a traversal
pub runs_traversal : (lockstep : Bool) (s : Script) (q now id : ℕ) (made made' : List Entry) (pass pass' : Pass) (root root' : ViewRoot) → id ≡ 1000016 → StepsRoot lockstep s q (traversal_ran s q now) made pass root made' pass' root' → StepsRoot lockstep s q (λ a. callback_ran s q now a id) made pass root made' pass' root'
runs_traversal lockstep s q now id made made' pass pass' root root' is shows text a h =
    subst (λ (b : Bool). IsShown lockstep s q made' pass' root' (if b then traversal_ran s q now a else if nat_le 1000000 id then animated s q now (id - 1000000) a else a)) (sym (eq-eqb id 1000016 is)) (shows text a h)

-- the callback of a gauge
pub runs_animation : (lockstep : Bool) (s : Script) (q now id : ℕ) (made made' : List Entry) (pass pass' : Pass) (root root' : ViewRoot) → id ≢ 1000016 → 1000000 ≤ id → StepsRoot lockstep s q (animated s q now (id - 1000000)) made pass root made' pass' root' → StepsRoot lockstep s q (λ a. callback_ran s q now a id) made pass root made' pass' root'
runs_animation lockstep s q now id made made' pass pass' root root' isnt least shows text a h =
    subst (λ (b : Bool). IsShown lockstep s q made' pass' root' (if b then traversal_ran s q now a else if nat_le 1000000 id then animated s q now (id - 1000000) a else a)) (sym (ne_eqb id 1000016 isnt))
    (subst (λ (b : Bool). IsShown lockstep s q made' pass' root' (if b then animated s q now (id - 1000000) a else a)) (sym (le-leb 1000000 id least)) (shows text a h))

-- a gauge of a line, before it moves
abbrev pub unmoved : Script → ℕ → GaugeLine → ViewGauge
unmoved s q line = record { own = looper_of s line.handler == q; step = line.step; value = 0; target = 0; animating = false }

pub made_unmoved : (s : Script) (q : ℕ) (ls : List GaugeLine) → (map standing (map (unmoved s q) ls) ≡ replicate (length ls) (record { value = 0; target = 0; animating = false })) × (map gauge_fixed (map (unmoved s q) ls) ≡ map (fixed_by s q) ls)
made_unmoved s q [] = (refl, refl)
made_unmoved s q (l ∷ ls) = (let rest = made_unmoved s q ls in (ap (λ (xs : List GaugeState). record { value = 0; target = 0; animating = false } ∷ xs) rest.0, ap (λ (xs : List (Bool × ℕ)). fixed_by s q l ∷ xs) rest.1))

pub all_unmoved : (s : Script) (q : ℕ) (ls : List GaugeLine) (i : ℕ) (read : List GaugeLine) (gs : List ViewGauge) → length read ≤ i → read ≡ ls → gs ≡ map (unmoved s q) (take i read) → gs ≡ map (unmoved s q) ls
all_unmoved s q ls i read gs far same are = are ∙ ap (map (unmoved s q)) (take_all i read far ∙ same)

-- ---- paints

first_paint : (b c : Bool) (x : Act) (xs ys : List Act) → b ≡ c → xs ≡ ys → (if b then x ∷ [] else []) ++ xs ≡ cons_option (if c then Some x else None) ys
first_paint b true x xs ys same rest = (λ i. (if same i then x ∷ [] else []) ++ rest i)
first_paint b false x xs ys same rest = (λ i. (if same i then x ∷ [] else []) ++ rest i)

-- the gauges from the one of number n on are painted as their lines say
paints_from : (s : Script) (q n : ℕ) (vs : List ViewGauge) (ls : List GaugeLine) → map gauge_fixed vs ≡ map (fixed_by s q) ls → ((k : ℕ) (d : GaugeLine) → k < length ls → gauge_line s (n + k) ≡ slice_index_or ls k d)
    → flat_map paint_of_gauge (enumerate_from n vs) ≡ filter_map (λ (g, x). if gauge_looper s g == q then Some (Paint g x.value) else None) (enumerate_from n (map standing vs))
paints_from s q n [] ls is lines = refl
paints_from s q n (v ∷ vs) [] is lines = absurd cc
paints_from s q n (v ∷ vs) (l ∷ ls) is lines =
    let first : gauge_fixed v ≡ fixed_by s q l = cc is in
    let rest : map gauge_fixed vs ≡ map (fixed_by s q) ls = cc is in
    let here : n + 0 ≡ n = omega arith in
    let line : gauge_line s n ≡ l = ap (gauge_line s) (sym here) ∙ lines 0 l (omega arith) in
    let mine : v.own ≡ (gauge_looper s n == q) = ap (λ (x : Bool × ℕ). x.0) first ∙ ap (λ (x : GaugeLine). looper_of s x.handler == q) (sym line) in
    first_paint v.own (gauge_looper s n == q) (Paint n v.value) _ _ mine (paints_from s q (n + 1) vs ls rest (λ k d lt. (
    let next : n + 1 + k ≡ n + suc k = omega arith in
    ap (gauge_line s) next ∙ lines (suc k) d (omega (arith, lt)))))

-- a view root has as many gauges as the script
pub as_many : (s : Script) (q : ℕ) (vs : List ViewGauge) → map gauge_fixed vs ≡ map (fixed_by s q) s.gauges → length vs ≡ length s.gauges
as_many s q vs is = sym (length-map vs gauge_fixed) ∙ (ap length is ∙ length-map s.gauges (fixed_by s q))

pub painted_so : (s : Script) (q : ℕ) (vs : List ViewGauge) → map gauge_fixed vs ≡ map (fixed_by s q) s.gauges → flat_map paint_of_gauge (enumerate_from 0 vs) ≡ paints s q (map standing vs)
painted_so s q vs is = paints_from s q 0 vs s.gauges is (λ k d lt. (
    let zero_plus : 0 + k ≡ k = omega arith in
    ap (gauge_line s) zero_plus ∙ get_or_default s.gauges k (record { handler = 0; step = 0 }) d lt))

enumerated_more : (n : ℕ) (xs : List ViewGauge) (x : ViewGauge) → enumerate_from n (xs ++ x ∷ []) ≡ enumerate_from n xs ++ (n + length xs, x) ∷ []
enumerated_more n [] x = (let here : n ≡ n + 0 = omega arith in ap (λ (k : ℕ). (k, x) ∷ []) here)
enumerated_more n (y ∷ xs) x = (
    let next : n + 1 + length xs ≡ n + suc (length xs) = omega arith in
    ap (λ (l : List (ℕ × ViewGauge)). (n, y) ∷ l) (enumerated_more (n + 1) xs x ∙ ap (λ (k : ℕ). enumerate_from (n + 1) xs ++ (k, x) ∷ []) next))

-- one gauge more was painted
pub painted_more : (before now : List Act) (vs : List ViewGauge) (i g : ℕ) (d : ViewGauge) → i < length vs → length vs ≤ 16 → g ≡ min i 4294967295 → now ≡ before ++ flat_map paint_of_gauge (enumerate_from 0 (take i vs))
    → now ++ paint_of_gauge (g, slice_index_or vs i d) ≡ before ++ flat_map paint_of_gauge (enumerate_from 0 (take (i + 1) vs))
painted_more before now vs i g d lt few counted had =
    let v = slice_index_or vs i d in
    let number : g ≡ i = omega (arith, lt, few, counted) in
    let here : 0 + length (take i vs) ≡ i = (let long = length-take-le i vs (omega (arith, lt)) in omega (arith, long)) in
    let more : enumerate_from 0 (take (i + 1) vs) ≡ enumerate_from 0 (take i vs) ++ (i, v) ∷ [] =
    ap (enumerate_from 0) (take_more vs i d lt) ∙ (enumerated_more 0 (take i vs) v ∙ ap (λ (k : ℕ). enumerate_from 0 (take i vs) ++ (k, v) ∷ []) here) in
    (λ j. had j ++ paint_of_gauge (number j, v))
    ∙ (flat_map_more paint_of_gauge before (enumerate_from 0 (take i vs)) (i, v) ∙ ap (λ (l : List (ℕ × ViewGauge)). before ++ flat_map paint_of_gauge l) (sym more))

-- ---- a traversal

barrier_of : (tokens : List ℕ) (o : Option ℕ) (token : ℕ) → IsBarrierOf tokens o (Some token) → (k : ℕ) × (o ≡ Some k) × (slice_get tokens k ≡ Some token)
barrier_of tokens None token h = absurd h
barrier_of tokens (Some k) token h = (k, refl, h)

-- the painting left all but what is painted, and no barrier
pub record IsPainted (root root' : ViewRoot) : Type 0 where
  pub gauges : root'.gauges ≡ root.gauges
  pub barrier : root'.barrier ≡ None
  pub edition : root'.edition ≡ root.edition

pub traverses : (lockstep : Bool) (s : Script) (q now : ℕ) (p p' : Sender) (token : ℕ) (pass : Pass) (root root' : ViewRoot) → root.barrier ≡ Some token → Makes p p' (Unbarrier token) [] → IsPainted root root'
    → (HasText s → HasGauges s q root → HasPainted s q root root') → StepsRoot lockstep s q (traversal_ran s q now) (calls_of p) pass root (calls_of p') pass root'
traverses lockstep s q now p p' token pass root root' has m left told text a h =
    let made = calls_of p in
    let before = tokens_in made in
    let under = barrier_of before a.barrier token (subst (IsBarrierOf before a.barrier) has h.stands.barrier) in
    let k = under.0 in
    let b = record a { barrier = None; painted = a.painted ++ paints s q a.gauges } in
    let tokens : tokens_in (made ++ m.entry ∷ []) ≡ before = tokens_more made m.entry [] m.answered ∙ append-nil before in
    let call : bare_call m.entry.call ≡ Unbarrier (slice_index before k) = m.makes ∙ ap Unbarrier (sym (get_or_from_slice_get before k token 0 under.2)) in
    let made_is : calls_of p' ≡ made ++ m.entry ∷ [] = calls_more p p' (Unbarrier token) [] refl m in
    let step : traversal_ran s q now a ≡ and_sends q now (Unbars k) b = ap (λ (o : Option ℕ). option_map_or (λ j. and_sends q now (Unbars j) b) o a) under.1 in
    let painted : map paint_of root'.painted.items ≡ a.painted ++ paints s q a.gauges = told text h.stands.lines ∙ (λ i. h.stands.painted i ++ paints s q (h.stands.gauges i)) in
    let shown : IsShown lockstep s q (made ++ m.entry ∷ []) pass root' (and_sends q now (Unbars k) b) = record {
      calls = sent_more q now (Unbars k) b made m.entry h.calls call;
      asked = h.asked;
      stands = record {
        edition = left.edition ∙ h.stands.edition;
        gauges = ap (λ (x : Vec ViewGauge Global). map standing x.items) left.gauges ∙ h.stands.gauges;
        lines = ap (λ (x : Vec ViewGauge Global). map gauge_fixed x.items) left.gauges ∙ h.stands.lines;
        barrier = subst (IsBarrierOf (tokens_in (made ++ m.entry ∷ [])) None) (sym left.barrier) tt;
        barriers = h.stands.barriers ∙ ap length (sym tokens);
        painted = painted;
      };
    } in
    subst (λ (l : List Entry). IsShown lockstep s q l pass root' (traversal_ran s q now a)) (sym made_is) (subst (IsShown lockstep s q (made ++ m.entry ∷ []) pass root') (sym step) shown)
