-- How the queues end, with the posters of all kits.
use Rattle.std.proofs.Common.{◌≡◌, ◌<◌, ℕ, Bool, false, List, [], ◌∷◌, ◌++◌, refl, sym, ap, ◌∙◌, subst, eq-eqb, zero, suc, ◌+◌, ◌≤◌, map, length, set, get_or, drop, arith, append-nil, length-append}
use Rattle.std.specs.Prelude.{MatchBool, ◌==◌}
use Rattle.std.specs.List.{AllByRecursion, range_with_len}
use Rattle.std.proofs.lemmas.Bool.{MatchBool-at_false}
use Rattle.std.proofs.lemmas.List.{append_cancel_left, length-replicate, nil_from_length, get_or-map, get_or-set_same, get_or-set_other, get_or_default, get_or-drop, length-set, length-drop, length-map, drop-drop}
use Rattle.loop_model.specs.declared.entry.Entry.{Entry}
use Rattle.loop_model.specs.Base.{empty_base}
use Rattle.loop_model.specs.Answers.{Setting, clock}
use Rattle.loop_model.specs.Legal.{AreNumbered, IsLegal}
use Rattle.loop_model.proofs.NumberLaws.{AreNumbered-known}
use Rattle.looper_run.specs.Holding.{Sender}
use Rattle.run_model.specs.Planned.{entries_by, history_of, sender_count}
use Rattle.run_model.specs.Moments.{Mode, IsOfClock, AreOfClockAfter, has_moment}
use Rattle.run_model.specs.Parts.{AreOfClock, all_entries}
use Rattle.run_model.proofs.RunLaws.{entries_by-append}
use Rattle.dash_hall.specs.ByClock.{is_by, IsByClock}
use Rattle.dash_hall.proofs.Clocking.{if_free, clock_more, clock_quiet}
use Rattle.dash_stage.specs.Records.{HasAllOf, HaveAll, HaveCalledByClock, AreOfLoopers}
use Rattle.std.proofs.Math.ListN.{get_or-append}
use Rattle.std.proofs.Math.Seq.{get_or-append_seam}
use Rattle.std.proofs.lemmas.List.FromFn.{get_or-map-range_with_len, length-map-range_with_len}
use Rattle.std.proofs.lemmas.List.Sums.{length-filter}
use mathlib.Core.Logic.{dite}
use mathlib.Core.List.{map-append, IsPrefix}
use native.Mathlib.Decide.{ℕ_discrete, dec_lt}
use Rattle.atomic_table.specs.Seated.{TableId}
use Rattle.loop_model.specs.Chain.{IsChainFrom}
use Rattle.loop_model.specs.declared.record.QueueRecord.{QueueRecord}
use Rattle.dash_script.specs.declared.script.Script.{Script}
use Rattle.shared_queue.specs.Known.{Shared, own_count}
use Rattle.shared_queue.specs.Constants.{Constants, made_in}
use Rattle.shared_queue.specs.Ends.{AreInOrder, HasCalls}
use Rattle.shared_queue.proofs.Prefixes.{made_in-append}
use Rattle.run_model.specs.Run.{IsRecordOf, record_setting}
use Rattle.dash_hall.specs.declared.kit.Kit.{Kit}
use Rattle.dash_hall.specs.Growth.{own}
use Rattle.dash_hall.specs.Kits.{Badge, badge_of, badge_for, AreQueuesOf, queue_key, queue_constants}
use Rattle.dash_hall.specs.Dealing.{GivesPoster, EachGivesPoster}
use Rattle.dash_stage.specs.Ending.{HavePosters, IsNext, AreNext, HaveAllPosters, IsKeptOf, EachEndsPoster, HaveLeft, KeepFrames, EndsPoster, HasGivenBack}
use Rattle.dash_hall.proofs.HallSteps.{within_parts, at_parts}

-- ==== the moments of a whole history, from those of each sender's calls

-- the senders of these entries are below this number
abbrev pub IsKnownAll : ℕ → List Entry → Type 0
IsKnownAll n es = AllByRecursion (λ (e : Entry). e.sender < n) es

pub known_all : (set : Setting) (es : List Entry) → AreNumbered set (empty_base set.senders) es → IsKnownAll set.senders es
known_all set es numbered =
    subst (λ n. IsKnownAll n es) (length-replicate set.senders 0) (AreNumbered-known set (empty_base set.senders) es (length-replicate set.senders 0) numbered)

-- a sender's moments in a history that has all its entries, and begins with what its poster has seen
pub clocked_of : (m : Mode) (k : ℕ) (p : Sender) (es : List Entry) → p.sender ≡ k → HasAllOf k p es → m.lockstep ≡ false → IsByClock m p → AreOfClockAfter m (is_by k) [] es
clocked_of m k p es whose all free by =
    let seen = p.view.seen in
    let more = all.1.0 in
    let whole : seen ++ more ≡ es = all.1.1 in
    let had : AreOfClockAfter m (is_by k) [] seen =
    subst (λ (n : ℕ). AreOfClockAfter m (is_by n) [] seen) whose (MatchBool-at_false (Unit {0}) (AreOfClockAfter m (is_by p.sender) [] seen) free by) in
    let grown : entries_by k seen ++ entries_by k more ≡ entries_by k seen ++ [] =
    sym (entries_by-append k seen more) ∙ (ap (entries_by k) whole ∙ (all.0 ∙ (ap (λ (n : ℕ). entries_by n seen) whose ∙ sym (append-nil (entries_by k seen))))) in
    let none : entries_by k more ≡ [] = append_cancel_left (entries_by k seen) (entries_by k more) [] grown in
    subst (AreOfClockAfter m (is_by k) []) whole
    (clock_more m (is_by k) [] seen more had
    (clock_quiet m k seen more (subst (AllByRecursion (λ (e : Entry). has_moment e.call ≡ false)) (sym none) tt)))

-- those of all senders together are the history's
all_after : (m : Mode) (n : ℕ) (past es : List Entry) → IsKnownAll n es → ((k : ℕ) → k < n → AreOfClockAfter m (is_by k) past es) → AreOfClockAfter m all_entries past es
all_after m n past [] known by = tt
all_after m n past (e ∷ es) known by = (
  subst (λ (b : Bool). MatchBool b (IsOfClock m (clock (empty_base 0) past) e.call) (Unit {0})) (eq-eqb e.sender e.sender refl) (by e.sender known.0).0,
  all_after m n (past ++ e ∷ []) es known.1 (λ k lt. (by k lt).1),
)

pub clocked_all : (m : Mode) (n : ℕ) (es : List Entry) → IsKnownAll n es → ((k : ℕ) → k < n → m.lockstep ≡ false → AreOfClockAfter m (is_by k) [] es) → AreOfClock m all_entries es
clocked_all m n es known by = if_free m.lockstep (AreOfClockAfter m all_entries [] es) (λ free. all_after m n [] es known (λ k lt. by k lt free))

-- ==== the queues end, one after another, with the posters of all kits

-- an element of a list that has one
pub some_of : {X : Type 0} (xs : List X) (k : ℕ) → k < length xs → X
some_of [] k lt = absurd (omega (arith, lt))
some_of (x ∷ xs) k lt = x

-- a whole list, of which this is next behind what was taken
pub parted_at : {X : Type 0} (yielded items rest given whole : List X) (x : X) → items ≡ x ∷ rest → yielded ++ items ≡ given → given ≡ whole → yielded ++ x ∷ rest ≡ whole
parted_at yielded items rest given whole x steps parts all = ap (λ l. yielded ++ l) (sym steps) ∙ (parts ∙ all)

-- the first kits gave their posters
pub record SomeGave (n : ℕ) (before : List Kit) (posters : List Sender) (after : List Kit) : Type 0 where
  pub kits : length after ≡ length before
  pub gone : (k : ℕ) (d : Kit) (p : Sender) → k < n → GivesPoster (get_or before k d) (get_or posters k p) (get_or after k d)
  pub still : (k : ℕ) (d : Kit) → n ≤ k → get_or after k d ≡ get_or before k d

pub gave_more : (n : ℕ) (before : List Kit) (posters posters' : List Sender) (p : Sender) (after after' : List Kit) (e kit : Kit)
    → length posters ≡ n → n < length after → posters' ≡ posters ++ p ∷ [] → after' ≡ set after n kit → GivesPoster (get_or after n e) p kit
    → SomeGave n before posters after → SomeGave (n + 1) before posters' after'
gave_more n before posters posters' p after after' e kit count within is wrote gives gave = subst (λ l. SomeGave (n + 1) before l after') (sym is) (subst (λ l. SomeGave (n + 1) before (posters ++ p ∷ []) l) (sym wrote) (record {
  kits = length-set after n kit ∙ gave.kits;
  gone = λ k d x lt. dite (ℕ_discrete k n)
      (λ here. subst (λ (j : ℕ). GivesPoster (get_or before j d) (get_or (posters ++ p ∷ []) j x) (get_or (set after n kit) j d)) (sym here)
      (subst (λ y. GivesPoster (get_or before n d) y (get_or (set after n kit) n d)) (sym (ap (λ j. get_or (posters ++ p ∷ []) j x) (sym count) ∙ get_or-append_seam posters p [] x))
      (subst (λ y. GivesPoster (get_or before n d) p y) (sym (get_or-set_same after n kit d within))
      (subst (λ y. GivesPoster y p kit) (get_or_default after n e d within ∙ gave.still n d (omega arith)) gives))))
      (λ there.
      let early : k < n = omega (arith, lt, there) in
      subst (λ y. GivesPoster (get_or before k d) y (get_or (set after n kit) k d)) (sym (get_or-append posters (p ∷ []) x k (omega (arith, early, count))))
      (subst (λ y. GivesPoster (get_or before k d) (get_or posters k x) y) (sym (get_or-set_other after n k kit d there)) (gave.gone k d x early)));
  still = λ k d le. get_or-set_other after n k kit d (λ e. absurd (omega (arith, e, le))) ∙ gave.still k d (omega (arith, le));
}))

-- a sender's entries in a history that begins with what its poster has seen, and has no more of them
pub own_entries : (p : Sender) (k : ℕ) (entries : List Entry) → p.sender ≡ k → IsPrefix p.view.seen entries → made_in p.sender entries ≡ own_count p → entries_by k entries ≡ own p
own_entries p k entries is begins made =
    let parts = made_in-append p.sender p.view.seen begins.0 in
    let whole : made_in p.sender (p.view.seen ++ begins.0) ≡ made_in p.sender p.view.seen = ap (made_in p.sender) begins.1 ∙ made in
    let none : made_in p.sender begins.0 ≡ 0 = omega (arith, parts, whole) in
    ap (λ (n : ℕ). entries_by n entries) (sym is)
    ∙ (ap (entries_by p.sender) (sym begins.1)
    ∙ (entries_by-append p.sender p.view.seen begins.0
    ∙ (ap (λ l. own p ++ l) (nil_from_length _ (length-filter (λ (e : Entry). e.sender == p.sender) begins.0 ∙ none)) ∙ append-nil _)))

pub next_have : (q : Shared TableId) (kits : List Kit) → AreNext q kits → HavePosters kits
next_have q kits next k d lt = (next.each k d lt).some

-- the posters that were given are all those of the queue
pub next_in_order : (q : Shared TableId) (before : List Kit) (posters : List Sender) (after : List Kit) → AreNext q before → EachGivesPoster before posters after → (length posters ≡ q.constants.setting.senders) × AreInOrder q posters
next_in_order q before posters after next gives = (gives.count ∙ next.count, order)
  where
    order : AreInOrder q posters
    order k d lt =
        let same = gives.count in
        let within : k < length before = omega (arith, lt, same) in
        let e = some_of before k within in
        let given : (get_or before k e).posters.items ≡ get_or posters k d ∷ (get_or after k e).posters.items = (gives.each k e d within).posters in
        let badge : badge_of (get_or posters k d) ≡ badge_for k q = ap (λ l. badge_of (get_or l 0 d)) (sym given) ∙ (next.each k e within).badge d in
        ((ap (λ (b : Badge). b.table) badge, ap (λ (b : Badge). b.constants) badge), ap (λ (b : Badge). b.sender) badge)

pub ends_posters : (q : Shared TableId) (before : List Kit) (posters : List Sender) (after : List Kit) (entries : List Entry) → AreNext q before → EachGivesPoster before posters after → HasCalls entries posters → EachEndsPoster entries before after
ends_posters q before posters after entries next gives calls = record {
  count = gives.kits;
  each = λ k d lt.
      let same = gives.count in
      let within : k < length posters = omega (arith, lt, same) in
      let p = some_of posters k within in
      let g = gives.each k d p lt in
      let order = (next_in_order q before posters after next gives).1 k p within in
      let called = calls k p within in
      record {
        poster = get_or posters k p;
        whose = order.1;
        posters = g.posters;
        made = (own_entries (get_or posters k p) k entries order.1 called.0 called.1, called.0);
        frames = g.frames;
        pass = g.pass;
      };
}

-- one number more
pub numbers_more : (k n : ℕ) → range_with_len k (n + 1) ≡ range_with_len k n ++ (k + n) ∷ []
numbers_more k zero = ap (λ m. m ∷ []) (let same : k ≡ k + zero = omega arith in same)
numbers_more k (suc n) =
    let one : suc n + 1 ≡ suc (n + 1) = omega arith in
    let there : k + 1 + n ≡ k + suc n = omega arith in
    ap (range_with_len k) one ∙ ap (λ l. k ∷ l) (numbers_more (k + 1) n ∙ ap (λ m. range_with_len (k + 1) n ++ m ∷ []) there)

-- the record that is kept of this looper's queue
pub kept_history : (m : Mode) (s : Script) (pool : TableId) (n : ℕ) (c : Constants TableId) (r : QueueRecord) → c ≡ queue_constants m.lockstep s pool n → IsKeptOf c r → AreOfClock m all_entries (history_of r) → IsRecordOf m all_entries s r
kept_history m s pool n c r is kept clocked =
    let looper : r.looper ≡ n = kept.looper ∙ ap (λ (x : Constants TableId). x.looper) is in
    let setting : record_setting r ≡ (queue_constants m.lockstep s pool n).setting = kept.setting ∙ ap (λ (x : Constants TableId). x.setting) is in
    record {
      main = ap (λ (x : Setting). x.main) setting ∙ ap (λ (k : ℕ). k == 0) (sym looper);
      lockstep = ap (λ (x : Setting). x.lockstep) setting;
      senders = ap (λ (x : Setting). x.senders) setting;
      chain = subst (λ (x : Setting). IsChainFrom (empty_base x.senders) r.segments) (sym kept.setting) kept.chain;
      legal = subst (λ (x : Setting). IsLegal x (empty_base x.senders) (history_of r)) (sym kept.setting) kept.legal;
      numbered = subst (λ (x : Setting). AreNumbered x (empty_base x.senders) (history_of r)) (sym kept.setting) kept.numbered;
      clocked = clocked;
    }

-- what is known where some queues have ended
pub record AreRetired (orig : List Kit) (records : List QueueRecord) (kits : List Kit) : Type 0 where
  pub loopers : map (λ (q : QueueRecord). q.looper) records ≡ range_with_len 0 (length records)
  pub all : HaveAll orig records
  pub left : HaveLeft (length records) orig kits

-- the next queue has its looper's constants
pub next_constants : (lockstep : Bool) (s : Script) (pool : TableId) (queues yielded rest : List (Shared TableId)) (q : Shared TableId) (n : ℕ)
    → yielded ++ q ∷ rest ≡ queues → n ≡ length yielded → AreQueuesOf lockstep s pool queues → q.constants ≡ queue_constants lockstep s pool n
next_constants lockstep s pool queues yielded rest q n parts is keys =
    let long : length queues ≡ s.loopers = sym (length-map queues queue_key) ∙ (ap length keys ∙ length-map-range_with_len (queue_constants lockstep s pool) 0 s.loopers) in
    let lt = within_parts yielded rest queues q n parts is in
    let few : n < s.loopers = omega (arith, lt, long) in
    ap queue_key (sym (at_parts yielded rest queues q n parts is))
    ∙ (sym (get_or-map queue_key queues n q q.constants lt)
    ∙ (ap (λ l. get_or l n q.constants) keys ∙ get_or-map-range_with_len (queue_constants lockstep s pool) 0 s.loopers n n q.constants few (omega arith)))

-- the kits as some queues have ended: what comes next is of the next queue
pub next_queue : (lockstep : Bool) (s : Script) (pool : TableId) (queues yielded rest : List (Shared TableId)) (q : Shared TableId) (n : ℕ) (orig kits : List Kit)
    → yielded ++ q ∷ rest ≡ queues → n ≡ length yielded → AreQueuesOf lockstep s pool queues → length orig ≡ sender_count s → HaveAllPosters queues orig → HaveLeft n orig kits
    → (q.constants ≡ queue_constants lockstep s pool n) × AreNext q kits
next_queue lockstep s pool queues yielded rest q n orig kits parts is keys senders have left = (constants, record { count = count; each = next })
  where
    within : n < length queues
    within = within_parts yielded rest queues q n parts is

    constants : q.constants ≡ queue_constants lockstep s pool n
    constants = next_constants lockstep s pool queues yielded rest q n parts is keys

    count : length kits ≡ q.constants.setting.senders
    count =
        let same : q.constants.setting.senders ≡ sender_count s = ap (λ (x : Constants TableId). x.setting.senders) constants in
        left.count ∙ (senders ∙ sym same)

    next : (k : ℕ) (d : Kit) → k < length kits → IsNext k q (get_or kits k d)
    next k d lt =
        let same = left.count in
        let lt' : k < length orig = omega (arith, lt, same) in
        let ps = (get_or orig k d).posters.items in
        let here : (get_or kits k d).posters.items ≡ drop n ps = (left.each k d lt').posters in
        let are : map badge_of ps ≡ map (badge_for k) queues = have k d lt' in
        let long : length ps ≡ length queues = sym (length-map ps badge_of) ∙ (ap length are ∙ length-map queues (badge_for k)) in
        let rest_long = length-drop n ps in
        let here_long = ap length here in
        let below = within in
        record {
          some = omega (arith, rest_long, here_long, long, below);
          badge = λ p.
              let place : n + 0 ≡ n = omega arith in
              let first : get_or (get_or kits k d).posters.items 0 p ≡ get_or ps n p = ap (λ l. get_or l 0 p) here ∙ (get_or-drop n ps 0 p ∙ ap (λ m. get_or ps m p) place) in
              ap badge_of first
              ∙ (sym (get_or-map badge_of ps n p (badge_of p) (omega (arith, long, below)))
              ∙ (ap (λ l. get_or l n (badge_of p)) are
              ∙ (get_or-map (badge_for k) queues n q (badge_of p) below ∙ ap (badge_for k) (at_parts yielded rest queues q n parts is))));
        }

-- the poster that a kit gave up next is the one at this place of what it had
next_given : (n : ℕ) (had has left : Kit) (entries : List Entry) (k : ℕ) (e : EndsPoster k entries has left) → HasGivenBack n had has → (p : Sender) → e.poster ≡ get_or had.posters.items n p
next_given n had has left entries k e h p =
    let place : n + 0 ≡ n = omega arith in
    ap (λ l. get_or l 0 p) (sym e.posters) ∙ (ap (λ l. get_or l 0 p) h.posters ∙ (get_or-drop n had.posters.items 0 p ∙ ap (λ m. get_or had.posters.items m p) place))

-- one queue more has ended
pub retires_more : (orig kits kits' : List Kit) (records records' : List QueueRecord) (r : QueueRecord)
    → r.looper ≡ length records → EachEndsPoster (history_of r) kits kits' → records' ≡ records ++ r ∷ [] → AreRetired orig records kits → AreRetired orig records' kits'
retires_more orig kits kits' records records' r looper ends more before = subst (λ l. AreRetired orig l kits') (sym more) (record {
  loopers = map-append (λ (q : QueueRecord). q.looper) records (r ∷ []) ∙ ((λ i. before.loopers i ++ (looper ∙ zeroth) i ∷ []) ∙ (sym (numbers_more 0 (length records)) ∙ ap (range_with_len 0) (sym one)));
  all = λ k q d p x lt below. dite (dec_lt q (length records))
      (λ early. subst (λ (y : QueueRecord). HasAllOf k (get_or (get_or orig k d).posters.items q p) (history_of y)) (sym (get_or-append records (r ∷ []) x q early)) (before.all k q d p x lt early))
      (λ late.
      let long = one in
      let last : q ≡ length records = omega (arith, late, below, long) in
      let e = ends.each k d (inside k lt) in
      let here : r ≡ get_or (records ++ r ∷ []) q x = sym (ap (λ (m : ℕ). get_or (records ++ r ∷ []) m x) last ∙ get_or-append_seam records r [] x) in
      let gave : e.poster ≡ get_or (get_or orig k d).posters.items q p = next_given (length records) (get_or orig k d) (get_or kits k d) (get_or kits' k d) (history_of r) k e (before.left.each k d lt) p ∙ ap (λ (m : ℕ). get_or (get_or orig k d).posters.items m p) (sym last) in
      subst (λ (y : QueueRecord). HasAllOf k (get_or (get_or orig k d).posters.items q p) (history_of y)) here (subst (λ (y : Sender). HasAllOf k y (history_of r)) gave e.made));
  left = record {
    count = ends.count ∙ before.left.count;
    each = λ k d lt.
        let e = ends.each k d (inside k lt) in
        let h = before.left.each k d lt in
        record {
          posters = ap (drop 1) (sym e.posters) ∙ (ap (drop 1) h.posters ∙ (drop-drop 1 (length records) (get_or orig k d).posters.items ∙ ap (λ m. drop m (get_or orig k d).posters.items) (sym one)));
          frames = e.frames ∙ h.frames;
          pass = e.pass ∙ h.pass;
        };
  };
})
  where
    zeroth : length records ≡ 0 + length records
    zeroth = omega arith

    one : length (records ++ r ∷ []) ≡ length records + 1
    one = omega (arith, length-append records (r ∷ []))

    inside : (k : ℕ) → k < length orig → k < length kits
    inside k lt = let same = before.left.count in omega (arith, lt, same)

-- the history of one queue more is one of the mode, where the moments of all senders' calls are
pub histories_more : (m : Mode) (s : Script) (pool : TableId) (c : Constants TableId) (orig kits kits' : List Kit) (records records' : List QueueRecord) (r : QueueRecord)
    → c ≡ queue_constants m.lockstep s pool (length records) → IsKeptOf c r → length orig ≡ sender_count s → length records < s.loopers
    → EachEndsPoster (history_of r) kits kits' → HaveLeft (length records) orig kits → HaveCalledByClock m s orig → records' ≡ records ++ r ∷ []
    → AllByRecursion (IsRecordOf m all_entries s) records → AllByRecursion (IsRecordOf m all_entries s) records'
histories_more m s pool c orig kits kits' records records' r is kept senders few ends left by more before = subst (AllByRecursion (IsRecordOf m all_entries s)) (sym more) (push records before)
  where
    by_each : (k : ℕ) → k < sender_count s → m.lockstep ≡ false → AreOfClockAfter m (is_by k) [] (history_of r)
    by_each k lt free =
        let within : k < length orig = omega (arith, lt, senders) in
        let d = some_of orig k within in
        let same = left.count in
        let e = ends.each k d (omega (arith, within, same)) in
        let gave = next_given (length records) (get_or orig k d) (get_or kits k d) (get_or kits' k d) (history_of r) k e (left.each k d within) e.poster in
        clocked_of m k e.poster (history_of r) e.whose e.made free (subst (IsByClock m) (sym gave) (by k (length records) d e.poster within few))

    known : IsKnownAll (sender_count s) (history_of r)
    known = subst (λ (n : ℕ). IsKnownAll n (history_of r)) (ap (λ (x : Constants TableId). x.setting.senders) is) (known_all c.setting (history_of r) kept.numbered)

    history : IsRecordOf m all_entries s r
    history = kept_history m s pool (length records) c r is kept (clocked_all m (sender_count s) (history_of r) known by_each)

    push : (l : List QueueRecord) → AllByRecursion (IsRecordOf m all_entries s) l → AllByRecursion (IsRecordOf m all_entries s) (l ++ r ∷ [])
    push [] h = (history, tt)
    push (x ∷ xs) h = (h.0, push xs h.1)

-- the kept queue is this looper's
pub kept_looper : (lockstep : Bool) (s : Script) (pool : TableId) (n : ℕ) (c : Constants TableId) (r : QueueRecord) → c ≡ queue_constants lockstep s pool n → IsKeptOf c r → r.looper ≡ n
kept_looper lockstep s pool n c r is kept = kept.looper ∙ ap (λ (x : Constants TableId). x.looper) is

pub retired_all : (s : Script) (orig kits : List Kit) (records : List QueueRecord) → length records ≡ s.loopers → AreRetired orig records kits
    → AreOfLoopers s records × HaveAll orig records × KeepFrames orig kits
retired_all s orig kits records all h = (
  h.loopers ∙ ap (range_with_len 0) all,
  h.all,
  record { count = h.left.count; each = λ k d lt. record { frames = (h.left.each k d lt).frames; pass = (h.left.each k d lt).pass } },
)
