-- Lines that are written word by word.
use Rattle.std.proofs.Common.{◌≡◌, ℕ, List, [], ◌∷◌, ◌++◌, refl, sym, ap, subst, ◌∙◌, append_assoc}
use Rattle.std.specs.List.{flat_map, join_with_byte}
use Rattle.std.specs.Fmt.{decimal}
use Rattle.std.proofs.lemmas.List.{append-nil, map-append}
use Rattle.std.proofs.lemmas.List.Concat.{flat_map-append}
use Rattle.loop_model.specs.declared.call.Call.{Call}
use Rattle.loop_model.specs.declared.call.Call.TheVariants as call
use Rattle.loop_model.specs.declared.reply.Reply.{Reply}
use Rattle.loop_model.specs.declared.reply.Reply.TheVariants as reply
use Rattle.loop_model.specs.declared.entry.Entry.{Entry as EntryData}
use Rattle.trace_check.specs.declared.trace.TraceQueue.{TraceQueue}
use Rattle.line_words.specs.Words.{line}
use Rattle.line_words.specs.Written.{spelled, spelled_words}
use Rattle.line_words.proofs.Joining.{join_append}
use Rattle.trace_check.specs.declared.line.TraceLine.TheVariants.{Title, Entry, End}
use Rattle.trace_check.specs.Line.{call_words, reply_words, trace_line_words}
use Rattle.trace_check.specs.Text.{trace_line_text, queue_lines, trace_text}

-- these are a word and others
abbrev Some_words : List (List ℕ) → Type 0
Some_words ws = (w : List ℕ) × (vs : List (List ℕ)) × (ws ≡ w ∷ vs)

call_named : (c : Call) → Some_words (spelled_words (call_words c))
call_named (call.Post p) = (_, _, refl)
call_named (call.Barrier now) = (_, _, refl)
call_named (call.Unbarrier token) = (_, _, refl)
call_named (call.Remove f) = (_, _, refl)
call_named (call.Quit safe now) = (_, _, refl)
call_named (call.Next now) = (_, _, refl)
call_named (call.Advance now) = (_, _, refl)
call_named (call.Halt now) = (_, _, refl)

reply_named : (r : Reply) → Some_words (spelled_words (reply_words r))
reply_named (reply.Accepted n) = (_, _, refl)
reply_named (reply.Refused place) = (_, _, refl)
reply_named (reply.Token token) = (_, _, refl)
reply_named reply.Unbarriered = (_, _, refl)
reply_named reply.NotPosted = (_, _, refl)
reply_named (reply.Removed count) = (_, _, refl)
reply_named reply.QuitDone = (_, _, refl)
reply_named (reply.AlreadyQuit place) = (_, _, refl)
reply_named reply.NotAllowed = (_, _, refl)
reply_named (reply.Dispatched n) = (_, _, refl)
reply_named reply.Disposed = (_, _, refl)
reply_named reply.Advanced = (_, _, refl)
reply_named reply.Halted = (_, _, refl)

to_right : (a b p q f : List ℕ) → (a ++ (32 ∷ (b ++ (32 ∷ (p ++ (32 ∷ q)))))) ++ f ≡ a ++ (32 ∷ (b ++ (32 ∷ (p ++ (32 ∷ (q ++ f))))))
to_right a b p q f =
    append_assoc a (32 ∷ (b ++ (32 ∷ (p ++ (32 ∷ q))))) f ∙ ap (λ t. a ++ (32 ∷ t)) (append_assoc b (32 ∷ (p ++ (32 ∷ q))) f ∙ ap (λ t. b ++ (32 ∷ t)) (append_assoc p (32 ∷ q) f))

abbrev Joins : List ℕ → List ℕ → List (List ℕ) → List (List ℕ) → Type 0
Joins a b ws vs =
    a ++ (32 ∷ (b ++ (32 ∷ (join_with_byte 32 ws ++ (32 ∷ (join_with_byte 32 vs ++ 10 ∷ [])))))) ≡ join_with_byte 32 (a ∷ b ∷ ws ++ vs) ++ 10 ∷ []

joins : (a b x : List ℕ) (xs : List (List ℕ)) (y : List ℕ) (ys : List (List ℕ)) → Joins a b (x ∷ xs) (y ∷ ys)
joins a b x xs y ys =
    sym (to_right a b (join_with_byte 32 (x ∷ xs)) (join_with_byte 32 (y ∷ ys)) (10 ∷ [])) ∙ ap (λ t. (a ++ (32 ∷ (b ++ (32 ∷ t)))) ++ 10 ∷ []) (sym (join_append x xs y ys))

joined : (a b : List ℕ) (ws vs : List (List ℕ)) → Some_words ws → Some_words vs → Joins a b ws vs
joined a b ws vs (x, xs, is) (y, ys, are) = subst (λ l. Joins a b l vs) (sym is) (subst (λ l. Joins a b (x ∷ xs) l) (sym are) (joins a b x xs y ys))

-- the sender, its number, the call and the reply
pub entry_joined : (e : EntryData)
    → decimal e.sender ++ (32 ∷ (decimal e.seq ++ (32 ∷ (join_with_byte 32 (spelled_words (call_words e.call)) ++ (32 ∷ (join_with_byte 32 (spelled_words (reply_words e.reply)) ++ 10 ∷ []))))))
    ≡ line (spelled_words (trace_line_words (Entry e)))
entry_joined e =
    let called = spelled_words (call_words e.call) in
    let replied = spelled_words (reply_words e.reply) in
    joined (decimal e.sender) (decimal e.seq) called replied (call_named e.call) (reply_named e.reply)
    ∙ ap (λ ws. line (decimal e.sender ∷ decimal e.seq ∷ ws)) (sym (map-append spelled (call_words e.call) (reply_words e.reply)))

-- the title, the lines of the queues, and the end
pub whole_text : (qs : List TraceQueue) (a b new : List ℕ) → a ≡ trace_line_text Title → b ≡ a ++ flat_map trace_line_text (flat_map queue_lines qs) → new ≡ b ++ trace_line_text End → new ≡ trace_text (record { queues = qs })
whole_text qs a b new title body end =
    end ∙ ap (λ t. t ++ trace_line_text End) (body ∙ ap (λ t. t ++ flat_map trace_line_text (flat_map queue_lines qs)) title)
    ∙ sym (flat_map-append trace_line_text (Title ∷ flat_map queue_lines qs) (End ∷ []) ∙ ap (λ t. flat_map trace_line_text (Title ∷ flat_map queue_lines qs) ++ t) (append-nil (trace_line_text End)))
