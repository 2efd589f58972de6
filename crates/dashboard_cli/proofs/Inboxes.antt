-- A run through an inbox: which scripts it refuses, and what is written of it.
use Rattle.std.proofs.Common.{◌≡◌, ◌+◌, ℕ, List, [], ◌∷◌, ◌++◌, Some, None, map, refl, arith, sym, ap, ◌∙◌, append_assoc, append-nil, subst}
use Rattle.std.specs.Prelude.{codes}
use Rattle.std.specs.List.{flat_map, range_with_len}
use Rattle.std.specs.Fmt.{decimal}
use Rattle.std.proofs.lemmas.Grind.{flat_map-append}
use Rattle.std.proofs.lemmas.List.FromFn.{map-range_with_len_more}
use Rattle.loop_model.specs.declared.entry.Entry.{Entry}
use Rattle.loop_model.specs.Fates.{fates}
use Rattle.dash_script.specs.declared.script.Script.{Script as ScriptData}
use Rattle.dash_script.specs.Accepting.{IsScriptText}
use Rattle.run_model.specs.Planned.{history_of}
use Rattle.run_model.specs.Text.{LineWords, fates_line, history_lines, line_text}
use Rattle.inbox_queue.specs.declared.parcel.Parcel.{Parcel}
use Rattle.inbox_queue.specs.declared.run.InboxReport.{InboxReport}
use Rattle.inbox_queue.specs.Bad.{bad_line}
use Rattle.dashboard_cli.specs.InboxText.{admitted_from, from_line, inbox_lines, inbox_text}
use Rattle.dashboard_cli.specs.Works.{limit, ToldBytes, ReadsWhole, Says}
use Rattle.dashboard_cli.specs.OtherWorks.{inbox_scripts, IsInboxText, RefusesInbox}
use Rattle.dashboard_cli.specs.Steps.{IsRefusedInput, StopsBeforeText}
use Rattle.dashboard_cli.specs.declared.status.LineCause.TheVariants as cause
use Rattle.dashboard_cli.specs.declared.status.Status.{Status}
use Rattle.dashboard_cli.specs.declared.status.Status.TheVariants.{Ok, Usage, Script, ReadFault, WriteFault, NoMemory, TooLong, Trace}

-- a script with a line that such a run doesn't know is the only one of its text
pub refused_by_line : (input : List ℕ) (script : ScriptData) (line : ℕ) → IsScriptText input script → bad_line script ≡ Some line
    → IsRefusedInput inbox_scripts input (Script line cause.Inbox)
refused_by_line input script line is bad = (
  (script, is, bad),
  λ taken.
      let same : script ≡ taken.0 = sym is.held ∙ taken.1.0.held in
      let wrong : None ≡ Some line = sym taken.1.1 ∙ ap bad_line (sym same) ∙ bad in absurd (cc),
)

-- a text that a run through an inbox refuses stops the command that read it whole
pub inbox_stops : (before after : ToldBytes) (input given : List ℕ) (status : Status) → ReadsWhole limit before after input → given ≡ input
    → IsRefusedInput inbox_scripts given status → StopsBeforeText inbox_scripts before after status
inbox_stops before after input given NoMemory read same none = (input, read.consumed, read.fits)
inbox_stops before after input given (Script line cause) read same none = record {
  input = input;
  read = read;
  bad = subst (λ (b : List ℕ). RefusesInbox b (Script line cause)) same none.0;
  not_taken = λ taken. none.1 (subst (λ (b : List ℕ). Says IsInboxText b) (sym same) taken);
}
inbox_stops before after input given (Trace line) read same none = absurd none.0
inbox_stops before after input given Ok read same none = absurd none.0
inbox_stops before after input given Usage read same none = absurd none.0
inbox_stops before after input given ReadFault read same none = absurd none.0
inbox_stops before after input given WriteFault read same none = absurd none.0
inbox_stops before after input given TooLong read same none = absurd none.0

-- the lines of one thread more
pub thread_written : (lists : List (List Parcel)) (n k : ℕ) (out x y : List ℕ) → k ≡ admitted_from n lists
    → x ≡ out ++ flat_map line_text (map (from_line lists) (range_with_len 0 n)) → y ≡ x ++ (codes "from " ++ (decimal n ++ (codes " " ++ (decimal k ++ 10 ∷ []))))
    → y ≡ out ++ flat_map line_text (map (from_line lists) (range_with_len 0 (n + 1)))
thread_written lists n k out x y counted before one =
    let lines = map (from_line lists) (range_with_len 0 n) in
    let last = from_line lists n in
    let joined : (c : ℕ) → x ++ (codes "from " ++ (decimal n ++ (codes " " ++ (decimal c ++ 10 ∷ [])))) ≡ x ++ line_text (codes "from" ∷ decimal n ∷ decimal c ∷ []) =
    λ c. ap (λ l. x ++ (codes "from " ++ l)) (sym (append_assoc (decimal n) (codes " " ++ decimal c) (10 ∷ []))) in
    one ∙ (joined k ∙ (ap (λ (c : ℕ). x ++ line_text (codes "from" ∷ decimal n ∷ decimal c ∷ [])) counted ∙ (ap (λ l. l ++ line_text last) before
    ∙ (append_assoc out (flat_map line_text lines) (line_text last)
    ∙ ap (λ l. out ++ l) (ap (λ l. flat_map line_text lines ++ l) (sym (append-nil (line_text last))) ∙ (sym (flat_map-append line_text lines (last ∷ []))
    ∙ ap (flat_map line_text) (sym (map-range_with_len_more (from_line lists) 0 n n (omega arith)))))))))

six_written : (a b c d e f x0 x1 x2 x3 x4 x5 x6 : List ℕ) → x0 ≡ [] → x1 ≡ x0 ++ a → x2 ≡ x1 ++ b → x3 ≡ x2 ++ c → x4 ≡ x3 ++ d → x5 ≡ x4 ++ e → x6 ≡ x5 ++ f
    → x6 ≡ ((a ++ (b ++ c)) ++ (d ++ e)) ++ (f ++ [])
six_written a b c d e f x0 x1 x2 x3 x4 x5 x6 p0 p1 p2 p3 p4 p5 p6 =
    p6 ∙ (ap (λ l. l ++ f) (p5 ∙ ap (λ l. l ++ e) (p4 ∙ ap (λ l. l ++ d) (p3 ∙ ap (λ l. l ++ c) (p2 ∙ ap (λ l. l ++ b) (p1 ∙ ap (λ l. l ++ a) p0)))))
    ∙ simp (append_assoc, append-nil) refl)

-- what the writing of the parts in a row has written
pub inbox_written : (r : InboxReport) (es : List Entry) (lists : List (List Parcel)) (threads : ℕ) (x0 x1 x2 x3 x4 x5 x6 : List ℕ)
    → es ≡ history_of r.kept → lists ≡ r.admitted → threads ≡ r.script.threads
    → x0 ≡ [] → x1 ≡ x0 ++ line_text (codes "inbox" ∷ codes "1" ∷ []) → x2 ≡ x1 ++ line_text (codes "looper" ∷ codes "0" ∷ [])
    → x3 ≡ x2 ++ flat_map line_text (history_lines es) → x4 ≡ x3 ++ line_text (fates_line (fates es))
    → x5 ≡ x4 ++ flat_map line_text (map (from_line lists) (range_with_len 0 threads)) → x6 ≡ x5 ++ line_text (codes "end" ∷ [])
    → x6 ≡ inbox_text r
unfolding inbox_text inbox_lines
inbox_written r es lists threads x0 x1 x2 x3 x4 x5 x6 he hl ht p0 p1 p2 p3 p4 p5 p6 =
    let head = codes "inbox" ∷ codes "1" ∷ [] in
    let looper = codes "looper" ∷ codes "0" ∷ [] in
    let history = history_lines (history_of r.kept) in
    let counts = fates_line (fates (history_of r.kept)) in
    let threads_are = map (from_line r.admitted) (range_with_len 0 r.script.threads) in
    let last = codes "end" ∷ [] in
    six_written (line_text head) (line_text looper) (flat_map line_text history) (line_text counts) (flat_map line_text threads_are) (line_text last) x0 x1 x2 x3 x4 x5 x6
    p0 p1 p2 (p3 ∙ ap (λ l. x2 ++ flat_map line_text (history_lines l)) he) (p4 ∙ ap (λ l. x3 ++ line_text (fates_line (fates l))) he)
    (p5 ∙ ap (λ l. x4 ++ flat_map line_text (map (from_line l) (range_with_len 0 threads))) hl ∙ ap (λ n. x4 ++ flat_map line_text (map (from_line r.admitted) (range_with_len 0 n))) ht) p6
    ∙ sym (flat_map-append line_text ((head ∷ looper ∷ history) ++ (counts ∷ threads_are)) (last ∷ [])
    ∙ ap (λ l. l ++ flat_map line_text (last ∷ [])) (flat_map-append line_text (head ∷ looper ∷ history) (counts ∷ threads_are)))
