-- What the fields of C's structs name.
use Rattle.std.specs.Prelude.{ℕ, Bool, Option, Some, None, if◌then◌else◌, is_some}
use Rattle.loop_model.specs.declared.post.Post.{Post}
use Rattle.loop_model.specs.declared.post.Filter.{Filter}
use Rattle.loop_model.specs.declared.post.Kind.TheVariants.{What, Callback, All}
use Rattle.message_slot.specs.declared.claim.NoClaim.{NoClaim}
use Rattle.message_slot.specs.Letter.{Letter, posted}
use Rattle.message_queue_c.specs.declared.message.MqMessage.{MqMessage}
use Rattle.message_queue_c.specs.declared.message.MqFilter.{MqFilter}

-- a number that is there where its flag says so
abbrev pub named : Bool → ℕ → Option ℕ
named has n = if has then Some n else None

-- the number, or 0 where there is none
abbrev pub number_or_0 : Option ℕ → ℕ
number_or_0 None = 0
number_or_0 (Some n) = n

-- the post that the fields name
abbrev pub named_post : MqMessage → Post
named_post m = record {
  handler = m.handler;
  what = m.what;
  arg = m.arg;
  obj = named m.has_obj m.obj;
  callback = named m.has_callback m.callback;
  when = m.when;
  asynchronous = m.asynchronous;
  slot = None;
}

-- the fields of a post
abbrev pub fields_of : Post → MqMessage
fields_of p = record {
  when = p.when;
  obj = number_or_0 p.obj;
  callback = number_or_0 p.callback;
  handler = p.handler;
  what = p.what;
  arg = p.arg;
  has_obj = is_some p.obj;
  has_callback = is_some p.callback;
  asynchronous = p.asynchronous;
}

-- the message that the fields name
abbrev pub letter_by : MqMessage → Letter NoClaim
letter_by m = record { item = posted None (named_post m); claim = None }

-- the messages that the fields name
abbrev pub filter_by : MqFilter → Filter
filter_by f =
    record { handler = f.handler; kind = if f.by_what then What f.what else (if f.by_callback then Callback f.callback else All); obj = named f.has_obj f.obj }
