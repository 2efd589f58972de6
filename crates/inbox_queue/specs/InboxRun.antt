-- When a report is an inbox run of a script.
use Rattle.std.specs.Prelude.{◌≡◌, ◌<◌, ◌≤◌, ◌+◌, ℕ, ◌==◌, ◌||◌, not, Bool, true, false, List, [], ◌∷◌, ◌++◌, map, Option, None, if◌then◌else◌}
use Rattle.std.specs.List.{AllByRecursion}
use Rattle.std.specs.Option.{option_map_or}
use Rattle.loop_model.specs.declared.post.Post.{Post as PostData}
use Rattle.loop_model.specs.declared.call.Call.{Call}
use Rattle.loop_model.specs.declared.call.Call.TheVariants.{Post, Next}
use Rattle.loop_model.specs.declared.entry.Entry.{Entry}
use Rattle.loop_model.specs.declared.item.Item.{Item}
use Rattle.loop_model.specs.Items.{when_of}
use Rattle.loop_model.specs.Entries.{moment_of}
use Rattle.loop_model.specs.Base.{empty_base}
use Rattle.loop_model.specs.Answers.{clock}
use Rattle.loop_model.specs.Pick.{first_eligible}
use Rattle.loop_model.specs.Chain.{IsChainFrom}
use Rattle.loop_model.specs.Legal.{IsLegal, AreNumbered}
use Rattle.dash_script.specs.declared.script.Block.{Block}
use Rattle.dash_script.specs.declared.script.Script.{Script}
use Rattle.run_model.specs.Planned.{history_of, entries_by}
use Rattle.run_model.specs.Control.{is_advance, is_controlled, is_called_in_time, ends_halted, each_behind, is_planned_time, is_fresh, AreReached}
use Rattle.run_model.specs.Run.{record_setting}
use Rattle.inbox_queue.specs.declared.parcel.Parcel.{Parcel}
use Rattle.inbox_queue.specs.declared.run.InboxReport.{InboxReport}
use Rattle.inbox_queue.specs.Plans.{planned_posts, parcels_of, from_sender}

-- a post without its slot
abbrev pub unslotted : PostData → PostData
unslotted p = record p { slot = None }

-- the post that a call makes at this time, if it makes one
abbrev pub post_at_time : ℕ → Call → List (ℕ × PostData)
post_at_time time (Post p) = (time, unslotted p) ∷ []
post_at_time time _ = []

-- the posts that a sender makes after these entries, the slot left free, each with the queue's time before it
abbrev pub posts_after : ℕ → List Entry → List Entry → List (ℕ × PostData)
posts_after sender past [] = []
posts_after sender past (e ∷ es) =
    (if e.sender == sender then post_at_time (clock (empty_base 0) past) e.call else []) ++ posts_after sender (past ++ e ∷ []) es

-- the posts that a sender makes
abbrev pub posts_made : ℕ → List Entry → List (ℕ × PostData)
posts_made sender es = posts_after sender [] es

-- the posts of these parcels, at this time
abbrev pub posts_at : ℕ → List Parcel → List (ℕ × PostData)
posts_at time parcels = map (λ x. (time, unslotted x.post)) parcels

-- the posts of what was admitted in each block, at the block's time
abbrev pub posts_admitted : List Block → List (List Parcel) → List (ℕ × PostData)
posts_admitted (b ∷ bs) (parcels ∷ lists) = posts_at b.time parcels ++ posts_admitted bs lists
posts_admitted _ _ = []

-- of each thread these parcels are those that its lines of the block plan, all of them, in order, with the indices 0, 1, 2 and so on; of nobody else are any
pub record IsOfBlock (s : Script) (b : Block) (parcels : List Parcel) : Type 0 where
  pub threads : (thread : ℕ) → thread < s.threads → from_sender thread parcels ≡ parcels_of thread (planned_posts s b.time thread b.lines)
  pub others : (thread : ℕ) → s.threads ≤ thread → from_sender thread parcels ≡ []

-- one list for each block, in order
abbrev pub AreOfBlocks : Script → List Block → List (List Parcel) → Type 0
AreOfBlocks s [] [] = Unit {0}
AreOfBlocks s (b ∷ bs) (parcels ∷ lists) = IsOfBlock s b parcels × AreOfBlocks s bs lists
AreOfBlocks s _ _ = ⊥

-- a post, or a look for a message
abbrev pub IsPostOrLook : Call → Type 0
IsPostOrLook (Post p) = Unit {0}
IsPostOrLook (Next now) = Unit {0}
IsPostOrLook _ = ⊥

-- the call posts a message
abbrev pub is_post : Call → Bool
is_post (Post p) = true
is_post _ = false

-- the entry is a post
abbrev pub is_posting : Entry → Bool
is_posting e = is_post e.call

-- no post; or one before which only posts have come since the time was last moved
abbrev pub post_comes_first : List Entry → Entry → Bool
post_comes_first past e = not (is_posting e) || is_fresh is_posting past

-- the message, if there is one, is due at this time
abbrev pub is_due_at : ℕ → Option Item → Bool
is_due_at time first = option_map_or (λ x. when_of x == time) first false

-- no move of the time; or one to the time of a block, to the end, or to when the first message that might be dispatched behind these entries is due
abbrev pub moves_as_planned : Script → List Entry → Entry → Bool
moves_as_planned s past e =
    not (is_advance e.call) || (is_planned_time s (moment_of e.call) || is_due_at (moment_of e.call) (first_eligible (empty_base 0) past))

-- the report is an inbox run of the script
pub record IsInboxRun (s : Script) (r : InboxReport) : Type 0 where
  pub script : r.script ≡ s
  -- the record is that of the main looper, in lockstep, with a sender for each thread, one for the looper and one for the controller; its history is one of a
  -- queue of one thread
  pub looper : r.kept.looper ≡ 0
  pub setting : record_setting r.kept ≡ record { main = true; lockstep = true; senders = s.threads + 2 }
  -- its parts are a chain: each starts from what the one before it left
  pub chain : IsChainFrom (empty_base r.kept.senders) r.kept.segments
  pub legal : IsLegal (record_setting r.kept) (empty_base r.kept.senders) (history_of r.kept)
  pub numbered : AreNumbered (record_setting r.kept) (empty_base r.kept.senders) (history_of r.kept)
  -- no thread has an entry
  pub threads : (thread : ℕ) → thread < s.threads → entries_by thread (history_of r.kept) ≡ []
  -- what was admitted is what the threads' lines plan
  pub admitted : AreOfBlocks s s.blocks r.admitted
  -- the looper's posts are, one for one and in order, those of what was admitted, each at the time of its block; its other entries are looks
  pub posts : posts_made s.threads (history_of r.kept) ≡ posts_admitted s.blocks r.admitted
  pub looks : AllByRecursion (λ e. IsPostOrLook e.call) (entries_by s.threads (history_of r.kept))
  -- the looper posts what a block brings before it looks for a message at that time
  pub first : each_behind post_comes_first [] (history_of r.kept) ≡ true
  -- each move goes to the time of a block, to the end, or to when the first message that might then be dispatched is due
  pub planned : each_behind (moves_as_planned s) [] (history_of r.kept) ≡ true
  -- no block is left out, also one without lines: the time is moved to that of each, but for one at the start
  pub reached : AreReached s.blocks (history_of r.kept)
  -- the controller moves the time on, past no message that may be dispatched, and halts the queue at the end, which is the last entry
  pub controlled : is_controlled true true (s.threads + 1) s.end (history_of r.kept) ≡ true
  pub timely : is_called_in_time (s.threads + 1) (history_of r.kept) ≡ true
  pub halted : ends_halted (history_of r.kept) ≡ true
