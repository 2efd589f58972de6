-- The call that a command plans on a queue.
use Rattle.std.specs.Prelude.{ℕ, ◌==◌, true, false, List, Option, Some, None}
use Rattle.std.specs.List.{find}
use Rattle.std.specs.Option.{option_map}
use Rattle.dash_script.specs.declared.script.Command.{Command}
use Rattle.dash_script.specs.declared.script.Command.TheVariants.{Post, PostAsync, Front, Callback, Set, Remove, RemoveCallback, RemoveAll, Barrier}
use Rattle.dash_script.specs.declared.script.Command.TheVariants.{Unbarrier, Quit, QuitSafely}
use Rattle.dash_script.specs.declared.script.Script.{Script}
use Rattle.loop_model.specs.declared.post.Post.{Post as PostData}
use Rattle.loop_model.specs.declared.post.Kind.{Kind}
use Rattle.loop_model.specs.declared.post.Kind.TheVariants as kind
use Rattle.run_model.specs.Planned.{looper_of, gauge_handler, sent_by}
use Rattle.loop_model.specs.Posts.{moment_after}
use Rattle.dash_threads.specs.declared.labels.Labelled.{Labelled}
use Rattle.dash_hall.specs.declared.calls.QueueCall.TheVariants as on_queue
use Rattle.dash_threads.specs.declared.planned.PlannedCall.{PlannedCall}

-- the sending of a message, on the queue of its handler's looper
abbrev pub sending_of : Script → PostData → PlannedCall
sending_of s p = record { looper = looper_of s p.handler; call = on_queue.Send p }

-- the removal of a declared handler's messages of a kind, on the queue of its looper
abbrev pub removal_from : Script → ℕ → Kind → PlannedCall
removal_from s h k = record { looper = looper_of s h; call = on_queue.Remove (record { handler = h; kind = k; obj = None }) }

-- the removal of a barrier that was posted
abbrev pub removal_of : Labelled → PlannedCall
removal_of b = record { looper = b.looper; call = on_queue.RemoveBarrier b.token }

-- the call of a command that sends or removes messages of a handler, at an uptime
abbrev pub planned_by_handler : Script → ℕ → Command → Option PlannedCall
planned_by_handler s u (Post h w d) = Some (sending_of s (sent_by s h w (moment_after u d)))
planned_by_handler s u (PostAsync h w d) = Some (sending_of s (record (sent_by s h w (moment_after u d)) { asynchronous = true }))
planned_by_handler s u (Front h w) = Some (sending_of s (sent_by s h w 0))
planned_by_handler s u (Callback h c d) = Some (sending_of s (record (sent_by s h 0 (moment_after u d)) { callback = Some c }))
planned_by_handler s u (Set g v) = Some (sending_of s (record (sent_by s (gauge_handler s g) 1 u) { arg = v; obj = Some g }))
planned_by_handler s u (Remove h w) = Some (removal_from s h (kind.What w))
planned_by_handler s u (RemoveCallback h c) = Some (removal_from s h (kind.Callback c))
planned_by_handler s u (RemoveAll h) = Some (removal_from s h kind.All)
planned_by_handler s u _ = None

-- the call of a command at an uptime, by a thread that keeps these barriers
abbrev pub call_planned : Script → List Labelled → ℕ → Command → Option PlannedCall
call_planned s bs u (Barrier l b) = Some (record { looper = l; call = on_queue.PostBarrier u })
call_planned s bs u (Unbarrier b) = option_map removal_of (find (λ x. x.label == b) bs)
call_planned s bs u (Quit l) = Some (record { looper = l; call = on_queue.Quit false u })
call_planned s bs u (QuitSafely l) = Some (record { looper = l; call = on_queue.Quit true u })
call_planned s bs u c = planned_by_handler s u c
