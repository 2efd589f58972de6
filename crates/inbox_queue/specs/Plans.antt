-- The posts that a script's lines plan for the threads of an inbox run, and the parcels in which each thread sends its own.
use Rattle.std.specs.Prelude.{ℕ, suc, ◌==◌, true, List, [], ◌∷◌, filter, Option, Some, None, if◌then◌else◌}
use Rattle.std.specs.List.{filter_map}
use Rattle.loop_model.specs.declared.post.Post.{Post as PostData}
use Rattle.loop_model.specs.Posts.{moment_after}
use Rattle.dash_script.specs.declared.script.Command.{Command}
use Rattle.dash_script.specs.declared.script.Command.TheVariants.{Post, PostAsync, Front, Callback}
use Rattle.dash_script.specs.declared.script.Line.{Line}
use Rattle.dash_script.specs.declared.script.Script.{Script}
use Rattle.run_model.specs.Planned.{sent_by}
use Rattle.inbox_queue.specs.declared.parcel.Parcel.{Parcel}

-- the post of a command at an uptime, where it is one
abbrev pub post_by : Script → ℕ → Command → Option PostData
post_by s u (Post h w d) = Some (sent_by s h w (moment_after u d))
post_by s u (PostAsync h w d) = Some (record (sent_by s h w (moment_after u d)) { asynchronous = true })
post_by s u (Front h w) = Some (sent_by s h w 0)
post_by s u (Callback h c d) = Some (record (sent_by s h 0 (moment_after u d)) { callback = Some c })
post_by s u _ = None

-- the posts that these lines plan for the thread, in their order, at the time of their block
abbrev pub planned_posts : Script → ℕ → ℕ → List Line → List PostData
planned_posts s time thread lines = filter_map (λ l. if l.thread == thread then post_by s time l.command else None) lines

-- the parcels that a sender makes of these posts, where it has put `index` before
abbrev pub parcels_from : ℕ → ℕ → List PostData → List Parcel
parcels_from from index [] = []
parcels_from from index (x ∷ xs) = record { from = from; index = index; post = x } ∷ parcels_from from (suc index) xs

-- the parcels that a sender makes of all that it puts
abbrev pub parcels_of : ℕ → List PostData → List Parcel
parcels_of from posts = parcels_from from 0 posts

-- those of the parcels that are from this sender, in their order
abbrev pub from_sender : ℕ → List Parcel → List Parcel
from_sender from parcels = filter (λ x. x.from == from) parcels
