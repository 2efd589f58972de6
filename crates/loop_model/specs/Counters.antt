-- The counters of a queue, as a part of what a history has left.
use Rattle.std.specs.Prelude.{ℕ, ◌+◌, max, Bool, false, ◌||◌, List, None}
use Rattle.loop_model.specs.declared.base.Base.{Base}
use Rattle.loop_model.specs.declared.counters.Counters.{Counters}
use Rattle.loop_model.specs.declared.entry.Entry.{Entry}
use Rattle.loop_model.specs.declared.item.Item.{Item}
use Rattle.loop_model.specs.Answers.{Setting}
use Rattle.loop_model.specs.Entries.{barriers_in, is_disposed, is_halted, moment_of, posts_in}
use Rattle.loop_model.specs.Listed.{quit_at}

-- what a history of this length has left, by its counters, its counts by sender and its items
abbrev pub left_with : ℕ → Counters → List ℕ → List Item → Base
left_with n c made items = record {
  length = n;
  time = c.time;
  accepted = c.accepted;
  barriers = c.barriers;
  quit = c.quit;
  disposed = c.disposed;
  halted = c.halted;
  made = made;
  items = items;
}

-- no entry went before
abbrev pub no_counters : Counters
no_counters = record { time = 0; accepted = 0; barriers = 0; quit = None; disposed = false; halted = false }

-- the counters behind one more entry, which stands at this place
abbrev pub noted : Counters → ℕ → Entry → Counters
noted c place e = record {
  time = max c.time (moment_of e.call);
  accepted = c.accepted + posts_in e.call e.reply;
  barriers = c.barriers + barriers_in e.call;
  quit = quit_at c.quit place e;
  disposed = c.disposed || is_disposed e.reply;
  halted = c.halted || is_halted e.reply;
}

-- a queue whose senders are counted elsewhere
abbrev pub setting : Bool → Bool → Setting
setting main lockstep = record { main = main; lockstep = lockstep; senders = 0 }
