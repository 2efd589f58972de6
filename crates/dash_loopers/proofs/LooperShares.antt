-- A looper whose posters hear others.
use Rattle.std.proofs.Common.{◌≡◌, ℕ, ◌+◌, ◌<◌, ◌≤◌, ◌||◌, Bool, true, false, List, ◌∷◌, ◌++◌, map, length, take, drop, get_or, Option, Some, None, refl, sym, ap, ap₂, ◌∙◌, subst, arith}
use Rattle.std.specs.List.{insert, remove, slice_get, list_any}
use Rattle.std.specs.Option.{IsSomeAnd, option_map}
use Rattle.std.proofs.Math.Bool.{or-true}
use Rattle.std.proofs.lemmas.List.{length-append, length-map, take-append-drop, same_lists}
use Rattle.std.proofs.lemmas.List.Edits.{length-insert, length-remove, get_or-insert_at, get_or-insert_below, get_or-insert_above, get_or-remove_below, get_or-remove_above}
use Rattle.std.proofs.lemmas.List.Folds.{list_any-append}
use Rattle.std.proofs.lemmas.Option.{slice_get-map, same_Some}
use mathlib.Core.List.{IsPrefix}
use mathlib.Core.Logic.{dite}
use native.Mathlib.Decide.{dec_lt}
use Rattle.loop_model.specs.declared.base.Base.{Base}
use Rattle.loop_model.specs.declared.entry.Entry.{Entry}
use Rattle.loop_model.specs.Base.{empty_base}
use Rattle.loop_model.specs.Entries.{is_halted}
use Rattle.loop_model.specs.Answers.{is_over, has_disposed, has_halted}
use Rattle.loop_model.proofs.AfterLaws.{disposed_stays}
use Rattle.dash_script.specs.declared.script.Script.{Script}
use Rattle.run_model.specs.Planned.{sender_count, entries_by}
use Rattle.looper_run.specs.Holding.{Sender}
use Rattle.looper_run.specs.Round.{is_ended}
use Rattle.dash_hall.specs.declared.hall.Hall.{Hall}
use Rattle.dash_loopers.specs.declared.player.Parts.{Parts}
use Rattle.dash_loopers.specs.declared.looper.StageLooper.{StageLooper}
use Rattle.dash_hall.specs.Kits.{badge_of, badge_for, frame_badge_of, IsHall, ArePostersOf}
use Rattle.dash_loopers.specs.Loopers.{ArePartsOf, IsLooper, is_given_up, LooperRest, LooperKeeps, posters_of, others_in, rest_in, IsWithin}
use Rattle.dash_hall.specs.Hearing.{HasHeard, HaveHeard}
use Rattle.dash_loopers.proofs.LooperLists.{map-insert, insert_removed}
use Rattle.dash_loopers.proofs.LooperDisposes.{disposes_same}
use Rattle.dash_loopers.proofs.LooperTold.{told_same}
use Rattle.dash_loopers.proofs.LooperKits.{looper_of, others_many, its_queue}
use Rattle.dash_hall.proofs.Hearing.{heard_badges}
use Rattle.dash_hall.proofs.PassesHearing.{pass_heard_badge}
use Rattle.dash_loopers.proofs.LooperPasses.{may_self, may_then}
use Rattle.choreographer.specs.Known.{IfAlone}

-- one after the other
pub looper_then : (R S T : List Sender → List Sender → Type 0) → ((a b c : List Sender) → R a b → S b c → T a c) → (x y z : StageLooper) → LooperKeeps R x y → LooperKeeps S y z → LooperKeeps T x z
looper_then R S T h x y z f g = record {
  number = g.number ∙ f.number;
  posters = h (posters_of x) (posters_of y) (posters_of z) f.posters g.posters;
  sender = g.sender ∙ f.sender;
  beside = record {
    pass = g.beside.pass ∙ f.beside.pass;
    journal = g.beside.journal ∙ f.beside.journal;
    idle_owed = g.beside.idle_owed ∙ f.beside.idle_owed;
    ended = g.beside.ended ∙ f.beside.ended;
  };
  rest = may_then (rest_in x.parts) (rest_in y.parts) (rest_in z.parts) f.rest g.rest;
  last = g.last ∙ f.last;
  dispatched = g.dispatched ∙ f.dispatched;
}

-- a looper as it is
pub looper_self : (R : List Sender → List Sender → Type 0) → ((a : List Sender) → R a a) → (x : StageLooper) → LooperKeeps R x x
looper_self R h x = record { number = refl; posters = h (posters_of x); sender = refl; beside = record { pass = refl; journal = refl; idle_owed = refl; ended = refl }; rest = may_self (rest_in x.parts); last = refl; dispatched = refl }

-- what follows from it for the posters
pub looper_weaker : (R S : List Sender → List Sender → Type 0) → ((a b : List Sender) → R a b → S a b) → (x y : StageLooper) → LooperKeeps R x y → LooperKeeps S x y
looper_weaker R S h x y f = record {
  number = f.number;
  posters = h (posters_of x) (posters_of y) f.posters;
  sender = f.sender;
  beside = f.beside;
  rest = f.rest;
  last = f.last;
  dispatched = f.dispatched;
}

-- what holds of one of two facts holds of one of three
or_more : (a x y : Bool) → (a || x) ≡ true → (a || (x || y)) ≡ true
or_more true x y h = refl
or_more false true y h = refl
or_more false false y h = absurd cc

-- what holds of two facts holds of one of them
or_either : (a b x y : Bool) → (a ≡ true → b ≡ true) → (x ≡ true → y ≡ true) → (a || x) ≡ true → (b || y) ≡ true
or_either true b x y f g h = ap (λ (t : Bool). t || y) (f refl)
or_either false b true y f g h = ap (λ (t : Bool). b || t) (g refl) ∙ or-true b
or_either false b false y f g h = absurd cc

-- a queue that was halted stays so
halted_more : (b : Base) (xs more : List Entry) → has_halted b xs ≡ true → has_halted b (xs ++ more) ≡ true
unfolding has_halted
halted_more b xs more h =
    let p : Entry → Bool = λ e. is_halted e.reply in
    ap (λ (t : Bool). b.halted || t) (list_any-append p xs more) ∙ or_more b.halted (list_any p xs) (list_any p more) h

-- a queue that is over stays so
over_more : (b : Base) (xs ys : List Entry) → IsPrefix xs ys → is_over b xs ≡ true → is_over b ys ≡ true
over_more b xs ys p h =
    subst (λ (l : List Entry). is_over b l ≡ true) p.1
    (or_either (has_disposed b xs) (has_disposed b (xs ++ p.0)) (has_halted b xs) (has_halted b (xs ++ p.0)) (disposed_stays b xs p.0) (halted_more b xs p.0) h)

-- one is inserted, wherever
pub insert_long : {X : Type 0} (xs : List X) (i : ℕ) (x : X) → length (insert xs i x) ≡ length xs + 1
insert_long xs i x =
    let parts = length-append (take i xs) (x ∷ drop i xs) in
    let whole = ap length (take-append-drop i xs) in
    let sum = length-append (take i xs) (drop i xs) in
    omega (arith, parts, whole, sum)

-- the looper's number stays that of one of its posters
pub within_then : (a b : StageLooper) → b.number ≡ a.number → length (posters_of b) ≡ length (posters_of a) → IsWithin a → IsWithin b
within_then a b number long w =
    let before = insert_long (others_in a.parts) a.number a.looper.held.poster in
    let after = insert_long (others_in b.parts) b.number b.looper.held.poster in
    omega (arith, number, long, before, after, w)

-- the parts that are there
with_parts : (P : Parts → Type 0) (o : Option Parts) → IsSomeAnd o P → (parts : Parts) × (o ≡ Some parts) × P parts
with_parts P None h = absurd h
with_parts P (Some parts) h = (parts, refl, h)

-- parts of which this is the rest
pub with_rest : (o : Option Parts) (r : LooperRest) → rest_in o ≡ Some r → (parts : Parts) × (o ≡ Some parts) × (rest_in (Some parts) ≡ Some r)
with_rest None r e = absurd cc
with_rest (Some parts) r e = (parts, refl, e)

-- what was inserted is taken out
remove_inserted : {X : Type 0} (xs : List X) (n : ℕ) (x : X) → n ≤ length xs → remove (insert xs n x) n ≡ xs
remove_inserted xs n x le =
    let long = length-insert xs n x le in
    let within : n < length (insert xs n x) = omega (arith, le, long) in
    let short = length-remove (insert xs n x) n within in
    same_lists (remove (insert xs n x) n) xs (omega (arith, long, short))
    (λ k d lt. dite (dec_lt k n)
    (λ below. get_or-remove_below (insert xs n x) n d k below within ∙ get_or-insert_below xs n x d k below le)
    (λ not. (let above : n ≤ k = omega arith in get_or-remove_above (insert xs n x) n d k above within ∙ get_or-insert_above xs n x d k above le)))

module _ (s : Script) (hall : Hall) (is_hall : IsHall s hall) (l : StageLooper) (is : IsLooper s hall l) where
  -- a looper has its parts
  pub looper_parts : (parts : Parts) × (l.parts ≡ Some parts) × ArePartsOf s hall l.number parts
  looper_parts = with_parts (ArePartsOf s hall l.number) l.parts is.parts

  -- a looper's number is that of one of its posters
  pub looper_within : IsWithin l
  looper_within =
      let p = looper_parts in
      subst (λ (o : Option Parts). l.number ≤ length (others_in o)) (sym p.1) (others_many s hall l.number (looper_of s hall l is_hall is) p.0 p.2)

  -- a looper has a poster of each queue, in order
  pub looper_posters : ArePostersOf (s.threads + l.number) hall.queues.items (posters_of l)
  looper_posters =
      let k : ℕ = s.threads + l.number in
      let p = looper_parts in
      let q = its_queue s hall l.number (looper_of s hall l is_hall is) in
      let table = (is.place.queue q.0 q.1).0 in
      let constants = (is.place.queue q.0 q.1).1 in
      let sender = is.own ∙ is.sender in
      let badge : badge_of l.looper.held.poster ≡ badge_for k q.0 = λ i. record { table = table i; constants = constants i; sender = sender i } in
      let at : slice_get (map (badge_for k) hall.queues.items) l.number ≡ Some (badge_for k q.0) = slice_get-map (badge_for k) hall.queues.items l.number ∙ ap (option_map (badge_for k)) q.1 in
      let others : map badge_of (others_in l.parts) ≡ remove (map (badge_for k) hall.queues.items) l.number = ap (λ (o : Option Parts). map badge_of (others_in o)) p.1 ∙ p.2.others in
      map-insert badge_of (others_in l.parts) l.number l.looper.held.poster
      ∙ (ap₂ (λ xs b. insert xs l.number b) others badge ∙ insert_removed (map (badge_for k) hall.queues.items) l.number (badge_for k q.0) at)

  module _ (b : StageLooper) (k : LooperKeeps HaveHeard l b) where
    -- its number is still that of one of its posters
    pub after_within : IsWithin b
    after_within = within_then l b k.number k.posters.long looper_within

    -- its own poster heard others
    pub own_kept : HasHeard l.looper.held.poster b.looper.held.poster
    own_kept =
        let d = l.looper.held.poster in
        let near : l.number < length (posters_of l) = omega (arith, insert_long (others_in l.parts) l.number d, looper_within) in
        let after : get_or (posters_of b) l.number d ≡ b.looper.held.poster =
        ap (λ (n : ℕ). get_or (posters_of b) n d) (sym k.number) ∙ get_or-insert_at (others_in b.parts) b.number b.looper.held.poster d after_within in
        let before : get_or (posters_of l) l.number d ≡ d = get_or-insert_at (others_in l.parts) l.number d d looper_within in
        subst (λ (x : Sender). HasHeard x b.looper.held.poster) before (subst (λ (y : Sender). HasHeard (get_or (posters_of l) l.number d) y) after (k.posters.each l.number d near))

    -- the others keep their badges
    others_kept : map badge_of (others_in b.parts) ≡ map badge_of (others_in l.parts)
    others_kept =
        let n = l.number in
        let x = badge_of l.looper.held.poster in
        let y = badge_of b.looper.held.poster in
        let all : insert (map badge_of (others_in b.parts)) b.number y ≡ insert (map badge_of (others_in l.parts)) n x =
        sym (map-insert badge_of (others_in b.parts) b.number b.looper.held.poster)
        ∙ (heard_badges (posters_of l) (posters_of b) k.posters ∙ map-insert badge_of (others_in l.parts) n l.looper.held.poster) in
        let le : n ≤ length (map badge_of (others_in l.parts)) = omega (arith, looper_within, length-map (others_in l.parts) badge_of) in
        let le' : b.number ≤ length (map badge_of (others_in b.parts)) = omega (arith, after_within, length-map (others_in b.parts) badge_of) in
        sym (remove_inserted (map badge_of (others_in b.parts)) b.number y le')
        ∙ (ap₂ (λ bs m. remove bs m) all k.number ∙ remove_inserted (map badge_of (others_in l.parts)) n x le)

    -- its parts are still its parts
    parts_kept : IsSomeAnd b.parts (ArePartsOf s hall b.number)
    parts_kept =
        let p = looper_parts in
        let r : LooperRest = record { frames = p.0.frames; root = p.0.root; fired = p.0.fired.items; passed = p.0.passed; awaits = p.0.awaits } in
        let heard = k.rest r (ap rest_in p.1) in
        let h = heard.2 in
        let q = with_rest b.parts heard.0 heard.1 in
        let rest = same_Some _ _ q.2 in
        let are : ArePartsOf s hall l.number q.0 = record {
          others = ap (λ (o : Option Parts). map badge_of (others_in o)) (sym q.1) ∙ (others_kept ∙ (ap (λ (o : Option Parts). map badge_of (others_in o)) p.1 ∙ p.2.others));
          frames = λ c at. ap (λ (z : LooperRest). frame_badge_of z.frames) rest ∙ (pass_heard_badge r.frames heard.0.frames h.frames ∙ p.2.frames c at);
          awaits = subst (λ (z : LooperRest). z.awaits ≡ true → IfAlone z.frames (z.frames.view.awaits ≡ 1)) (sym rest)
              (λ waits key has named.
              h.frames.same.awaits ∙ p.2.awaits (sym h.awaits ∙ waits) key (sym h.frames.same.constants ∙ has) (named ∙ ap (λ (n : ℕ). Some n) h.frames.same.number));
        } in
        subst (λ (o : Option Parts). IsSomeAnd o (ArePartsOf s hall b.number)) (sym q.1) (subst (λ (n : ℕ). ArePartsOf s hall n q.0) (sym k.number) are)

    -- a looper stays one
    pub looper_kept : IsLooper s hall b
    looper_kept =
        let h = own_kept in
        record {
          few = is.few;
          number = subst (λ (n : ℕ). n < s.loopers) (sym k.number) is.number;
          sender = k.sender ∙ (is.sender ∙ ap (λ (n : ℕ). s.threads + n) (sym k.number));
          parts = parts_kept;
          place = record {
            queue = λ q at. (let p = is.place.queue q (subst (λ (n : ℕ). slice_get hall.queues.items n ≡ Some q) k.number at) in (h.same.table ∙ p.0, h.same.constants ∙ p.1));
            pool = ap (λ t. t.home) k.beside.pass ∙ is.place.pool;
          };
          own = h.same.sender ∙ (is.own ∙ sym k.sender);
          journal = ap (λ j. j.looper) k.beside.journal ∙ (is.journal ∙ sym k.number);
          ended = k.beside.ended ∙ (is.ended ∙ ap is_ended (sym k.last));
          told = λ on. told_same l.looper.held.journal b.looper.held.journal l.sender b.sender l.looper.held.poster.view.seen b.looper.held.poster.view.seen k.beside.journal
              (ap (λ (n : ℕ). entries_by n b.looper.held.poster.view.seen) (sym (h.same.sender ∙ (is.own ∙ sym k.sender))) ∙ h.called ∙ ap (λ (n : ℕ). entries_by n l.looper.held.poster.view.seen) is.own)
              (is.told (ap is_given_up (sym k.last) ∙ on));
          over = λ e. over_more (empty_base (sender_count s)) l.looper.held.poster.view.seen b.looper.held.poster.view.seen h.more (is.over (ap is_ended (sym k.last) ∙ e));
          disposes = disposes_same l.last b.last (entries_by l.sender l.looper.held.poster.view.seen) (entries_by b.sender b.looper.held.poster.view.seen) k.last
              (ap (λ (n : ℕ). entries_by n b.looper.held.poster.view.seen) (sym (h.same.sender ∙ (is.own ∙ sym k.sender))) ∙ h.called ∙ ap (λ (n : ℕ). entries_by n l.looper.held.poster.view.seen) is.own)
              is.disposes;
        }
