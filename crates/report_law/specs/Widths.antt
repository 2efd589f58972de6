-- The numbers of a report that its lines may show have the widths of their types.
use Rattle.std.specs.Prelude.{◌<◌, ◌^◌, length, IfSome}
use Rattle.std.specs.List.{AllByRecursion}
use Rattle.loop_model.specs.declared.post.Post.{Post as PostData}
use Rattle.loop_model.specs.declared.call.Call.{Call}
use Rattle.loop_model.specs.declared.call.Call.TheVariants.{Post, Unbarrier, Next}
use Rattle.loop_model.specs.declared.reply.Reply.{Reply}
use Rattle.loop_model.specs.declared.reply.Reply.TheVariants.{Refused, AlreadyQuit, Dispatched}
use Rattle.loop_model.specs.declared.entry.Entry.{Entry}
use Rattle.loop_model.specs.declared.segment.Segment.{Segment}
use Rattle.loop_model.specs.declared.journal.Act.{Act}
use Rattle.loop_model.specs.declared.journal.Act.TheVariants.{Idle, Event, Paint}
use Rattle.loop_model.specs.declared.journal.Journal.{Journal}
use Rattle.loop_model.specs.declared.record.QueueRecord.{QueueRecord}
use Rattle.frame_phases.specs.declared.entry.Callback.{Callback}
use Rattle.frame_phases.specs.declared.entry.FrameEntry.{FrameEntry}
use Rattle.frame_phases.specs.declared.entry.FrameEntry.TheVariants.{Posted, Begin}
use Rattle.frame_phases.specs.declared.entry.FrameRecord.{FrameRecord}
use Rattle.line_words.specs.Written.{IsShort, IsLong}
use Rattle.run_model.specs.declared.report.Report.{Report}

-- what a line tells of a post: its handler, and its what or its callback
abbrev pub PostFits : PostData → Type 0
PostFits p = IsShort p.handler × IsShort p.what × IfSome p.callback IsLong

-- what a line tells of a call
abbrev pub CallFits : Call → Type 0
CallFits (Post p) = PostFits p
CallFits (Unbarrier token) = IsLong token
CallFits (Next now) = IsLong now
CallFits _ = Unit {0}

-- what a line tells of a reply
abbrev pub ReplyFits : Reply → Type 0
ReplyFits (Refused place) = IsLong place
ReplyFits (AlreadyQuit place) = IsLong place
ReplyFits (Dispatched n) = IsLong n
ReplyFits _ = Unit {0}

-- what a line tells of an entry
abbrev pub EntryFits : Entry → Type 0
EntryFits e = CallFits e.call × ReplyFits e.reply

-- each entry of a part
abbrev pub SegmentFits : Segment → Type 0
SegmentFits p = AllByRecursion EntryFits p.entries

-- each part of a history
abbrev pub QueueFits : QueueRecord → Type 0
QueueFits q = AllByRecursion SegmentFits q.segments

-- what a line tells of an act
abbrev pub ActFits : Act → Type 0
ActFits (Idle id kept) = IsShort id
ActFits (Event fd events mask) = IsShort fd × IsShort events
ActFits (Paint gauge value) = IsShort gauge × IsShort value
ActFits _ = Unit {0}

-- each act of a journal
abbrev pub JournalFits : Journal → Type 0
JournalFits j = AllByRecursion ActFits j.acts

-- what a line tells of a callback that ran
abbrev pub CallbackFits : Callback → Type 0
CallbackFits c = IsShort c.phase × IsLong c.id

-- what a line tells of a step of a frame, and of what was posted for one
abbrev pub FrameEntryFits : FrameEntry → Type 0
FrameEntryFits (Posted c) = CallbackFits c
FrameEntryFits (Begin vsync start time) = IsLong time
FrameEntryFits _ = Unit {0}

-- each step of a frame record
abbrev pub FramesFit : FrameRecord → Type 0
FramesFit f = AllByRecursion FrameEntryFits f.entries

-- each of its numbers has the width of its place, and so has the number of its loopers
pub record ReportFits (r : Report) : Type 0 where
  pub queues : AllByRecursion QueueFits r.queues
  pub journals : AllByRecursion JournalFits r.journals
  pub frames : AllByRecursion FramesFit r.frames
  pub loopers : length r.queues < 2 ^ 64
