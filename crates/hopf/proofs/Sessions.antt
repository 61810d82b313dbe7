-- How a session goes on from piece to piece.
use Rattle.std.proofs.Common.{◌≡◌, ◌⊎◌, inl, inr, ℕ, ◌+◌, ◌-◌, ◌<◌, ◌≤◌, List, [], ◌∷◌, ◌++◌, length, take, drop, get_or, Bool, true, false, if◌then◌else◌, ◌==◌, Option, Some, Result, Err, refl, ap, ◌∙◌, sym, subst, arith, append_assoc, append-nil, length-append, add-one, drop-cons, take-append-drop}
use Rattle.std.proofs.lemmas.Bool.{eqb-true}
use Rattle.std.proofs.lemmas.List.{nil_from_length}
use Rattle.std.proofs.lemmas.List.Sums.{sum_by-cons}
use Rattle.std.specs.Io.KnownBytes.{Appends, Keeps}
use Rattle.std.proofs.KnownBytes.{Appends-nil, Appends-trans, Appends-kept}
use Rattle.hopf_io.specs.Prefixes.{AppendsPrefix}
use Rattle.hopf_io.specs.Steady.{SendsSteadily}
use Rattle.session_tokens.specs.Tokens.{is_blank}
use Rattle.hopf.specs.declared.session.Session.{Session}
use Rattle.hopf.specs.declared.session.SessionFault.{SessionFault}
use Rattle.hopf.specs.declared.statement.Outcome.{Outcome}
use Rattle.hopf.specs.declared.statement.Outcome.TheVariants.{Refused}
use Rattle.session_evaluation.specs.Names.{Names}
use Rattle.hopf.specs.Outcomes.{IsOutcome, line_of, is_printed, is_refusal}
use Rattle.hopf.specs.Transcript.{is_end, IsScript, lines, count_printed, count_refused, unfinished, unfinished_refusal}
use Rattle.hopf.specs.Sessions.{Pends, Script, PendingLaw, Same, Continues, Advances, Leaves, Stops, WritesIfSteady, Finishes, Runs, StopsWhole, WholeIfSteady}
use Rattle.hopf.specs.SessionSteps.{Ends, EndStops, EndIfSteady, last_of}
use Rattle.hopf.proofs.OneOutcome.{outcome_once}
use Rattle.hopf.proofs.Statements.{trimmed_text, trimmed_script, script_trimmed, script_end, from_script_end, script_blank, from_script_blank, script_last, from_script_last}

-- what the session keeps is pending
pub pends_kept : (s : Session) → Pends s.pending s
pends_kept s = (s.text.no_end, sym (trimmed_text s.pending s.text.no_blank))

-- scripts of pending bytes are those of what the session keeps
pub at_kept : (s : Session) (more : List ℕ) (os : List Outcome) (left : Names) → Script s more os left → IsScript s.names (s.pending ++ more) os left
at_kept s more os left (text, (no_end, kept), script) =
    subst (λ (l : List ℕ). IsScript s.names (l ++ more) os left) (sym kept) (trimmed_script s.names text more os left no_end script)

pub from_kept : (s : Session) (more : List ℕ) (os : List Outcome) (left : Names) → IsScript s.names (s.pending ++ more) os left → Script s more os left
from_kept s more os left script = (s.pending, pends_kept s, script)

-- all pending bytes have the same scripts
pub pending_same : (s : Session) → PendingLaw s
pending_same s = record {
  text = s.pending;
  pends = pends_kept s;
  same = λ other more os left (no_end, kept). (
    (λ script. script_trimmed s.names other more os left no_end (subst (λ (l : List ℕ). IsScript s.names (l ++ more) os left) kept script)),
    (λ script. subst (λ (l : List ℕ). IsScript s.names (l ++ more) os left) (sym kept) (trimmed_script s.names other more os left no_end script)),
  );
}

same_then : (a b c : Session) (w v : List ℕ) (xs ys zs : List Outcome) → Same a b w xs ys → Same b c v ys zs → Same a c (w ++ v) xs zs
same_then a b c w v xs ys zs h k = record {
  lines = h.lines ∙ ap (λ l. w ++ l) k.lines ∙ sym (append_assoc w v (lines c.statements zs));
  statements = h.statements ∙ k.statements;
  printed = h.printed ∙ k.printed;
  refused = h.refused ∙ k.refused;
}

continues_then : (a b c : Session) (x y z : List ℕ) (w v : List ℕ) → Continues a b x y w → Continues b c y z v → Continues a c x z (w ++ v)
continues_then a b c x y z w v h k = record {
  forth = λ rest left script.
      let (mid, is_mid, same) = k.forth rest left script in
      let (all, is_all, same') = h.forth mid left is_mid in
      (all, is_all, same_then a b c w v all mid rest same' same);
  back = λ all left script.
      let (mid, is_mid, same) = h.back all left script in
      let (rest, is_rest, same') = k.back mid left is_mid in
      (rest, is_rest, same_then a b c w v all mid rest same same');
}

-- the same outcomes, where the counts are the same
same_counts : (old new : Session) (os : List Outcome) → new.statements ≡ old.statements → new.printed ≡ old.printed → new.refused ≡ old.refused → Same old new [] os os
same_counts old new os statements printed refused = record {
  lines = ap (λ (k : ℕ). lines k os) (sym statements);
  statements = omega (arith, statements);
  printed = omega (arith, printed);
  refused = omega (arith, refused);
}

-- the pending text goes on with the byte, or the byte counts for nothing
pub continues_text : (old new : Session) (x y : List ℕ) → new.names ≡ old.names → new.statements ≡ old.statements → new.printed ≡ old.printed → new.refused ≡ old.refused
    → old.pending ++ x ≡ new.pending ++ y → Continues old new x y []
continues_text old new x y names statements printed refused same = record {
  forth = λ rest left script.
      let here = subst (λ (l : List ℕ). IsScript new.names l rest left) (sym same) (at_kept new y rest left script) in
      (rest, from_kept old x rest left (subst (λ (n : Names). IsScript n (old.pending ++ x) rest left) names here), same_counts old new rest statements printed refused);
  back = λ all left script.
      let here = subst (λ (l : List ℕ). IsScript old.names l all left) same (at_kept old x all left script) in
      (all, from_kept new y all left (subst (λ (n : Names). IsScript n (new.pending ++ y) all left) (sym names) here), same_counts old new all statements printed refused);
}

pub advances_nothing : (s : Session) (taken : Option (List ℕ)) (room : Option ℕ) → Advances s s taken taken room room []
advances_nothing s taken room = record {
  written = [];
  appended = Appends-nil taken;
  continues = λ r. continues_text s s r r refl refl refl refl refl;
  used = λ n e fits. e ∙ ap Some (omega arith);
}

pub advances_then : (a b c : Session) (t t' t'' : Option (List ℕ)) (m m' m'' : Option ℕ) (p q : List ℕ)
    → Advances a b t t' m m' p → Advances b c t' t'' m' m'' q → Advances a c t t'' m m'' (p ++ q)
advances_then a b c t t' t'' m m' m'' p q first second = record {
  written = first.written ++ second.written;
  appended = Appends-trans _ _ _ _ _ first.appended second.appended;
  continues = λ r. subst (λ (l : List ℕ). Continues a c l r (first.written ++ second.written)) (sym (append_assoc p q r))
      (continues_then a b c (p ++ (q ++ r)) (q ++ r) r first.written second.written (first.continues (q ++ r)) (second.continues r));
  used = λ n e fits.
      let both : length first.written + length second.written ≤ n = omega (arith, length-append first.written second.written) in
      let mid = first.used n e (omega arith) in
      let last = second.used (n - length first.written) mid (omega arith) in
      last ∙ ap Some (omega (arith, length-append first.written second.written));
}

-- what is left of a piece after a first part
leaves_then : (a b : Session) (t t' : Option (List ℕ)) (m m' : Option ℕ) (p q more : List ℕ) (names : Names) → Advances a b t t' m m' p → Leaves b q names → Leaves a (p ++ (q ++ more)) names
leaves_then a b t t' m m' p q more names first h =
    let back = (first.continues h.front).forth h.outcomes names h.are in
    record {
      front = p ++ h.front;
      behind = h.behind ++ more;
      outcomes = back.0;
      parts = ap (λ (l : List ℕ). p ++ (l ++ more)) h.parts ∙ ap (λ (l : List ℕ). p ++ l) (append_assoc h.front h.behind more) ∙ sym (append_assoc p h.front (h.behind ++ more));
      are = back.1;
    }

-- no statement was run
pub leaves_none : (s : Session) (piece : List ℕ) (names : Names) → names ≡ s.names → Leaves s piece names
leaves_none s piece names same = record {
  front = [];
  behind = piece;
  outcomes = unfinished s.pending;
  parts = refl;
  are = from_kept s [] (unfinished s.pending) names (rw (append-nil, same) (script_last s.names s.pending s.text));
}

-- a call that stopped at once
pub stops_at_once : (old new : Session) (t : Option (List ℕ)) (piece : List ℕ) → new.names ≡ old.names → Stops old new t t piece
stops_at_once old new t piece same = record {
  written = [];
  appended = Appends-nil t;
  prefix = λ r all left script. (lines old.statements all, refl);
  names = leaves_none old piece new.names same;
}

-- a call that stopped, after a piece
pub stops_then : (a b c : Session) (t t' t'' : Option (List ℕ)) (m m' : Option ℕ) (p q more : List ℕ)
    → Advances a b t t' m m' p → Stops b c t' t'' q → Stops a c t t'' (p ++ (q ++ more))
stops_then a b c t t' t'' m m' p q more first second = record {
  written = first.written ++ second.written;
  appended = Appends-trans _ _ _ _ _ first.appended second.appended;
  prefix = λ r all left script.
      let same : (p ++ (q ++ more)) ++ r ≡ p ++ (q ++ (more ++ r)) = append_assoc p (q ++ more) r ∙ ap (λ l. p ++ l) (append_assoc q more r) in
      let script' = subst (λ (l : List ℕ). Script a l all left) same script in
      let (rest, is_rest, whole) = (first.continues (q ++ (more ++ r))).back all left script' in
      let (behind, parts) = second.prefix (more ++ r) rest left is_rest in
      (behind, whole.lines ∙ ap (λ l. first.written ++ l) parts ∙ sym (append_assoc first.written second.written behind));
  names = leaves_then a b t t' m m' p q more c.names first second.names;
}

pub steady_then : (a b : Session) (t t' : Option (List ℕ)) (m m' : Option ℕ) (p q more : List ℕ) (result : Result Unit SessionFault)
    → Advances a b t t' m m' p → WritesIfSteady b m' q result → WritesIfSteady a m (p ++ (q ++ more)) result
steady_then a b t t' m m' p q more result first second = record {
  never = λ n r all left room script fits.
      let same : (p ++ (q ++ more)) ++ r ≡ p ++ (q ++ (more ++ r)) = append_assoc p (q ++ more) r ∙ ap (λ l. p ++ l) (append_assoc q more r) in
      let script' = subst (λ (l : List ℕ). Script a l all left) same script in
      let (rest, is_rest, whole) = (first.continues (q ++ (more ++ r))).back all left script' in
      let sizes : length (lines a.statements all) ≡ length first.written + length (lines b.statements rest) =
      ap length whole.lines ∙ length-append first.written (lines b.statements rest) in
      let mid = first.used n room (omega arith) in
      second.never (n - length first.written) (more ++ r) rest left mid is_rest (omega arith);
}

-- the count of outcomes that pass a test, with one more in front
count_more : (test : Outcome → Bool) (k k' : ℕ) (o p : Outcome) (all rest : List Outcome) (count : List Outcome → ℕ) → ((x : Outcome) (xs : List Outcome) → count (x ∷ xs) ≡ (if test x then 1 else 0) + count xs)
    → all ≡ o ∷ rest → o ≡ p → k' ≡ k + (if test p then 1 else 0) → k + count all ≡ k' + count rest
count_more test k k' o p all rest count cons e f h = rw (e, f) (omega (arith, cons p rest, h))

count_by-cons-printed : (x : Outcome) (xs : List Outcome) → count_printed (x ∷ xs) ≡ (if is_printed x then 1 else 0) + count_printed xs
count_by-cons-printed x xs = sum_by-cons (λ (o : Outcome). if is_printed o then 1 else 0) x xs

count_by-cons-refused : (x : Outcome) (xs : List Outcome) → count_refused (x ∷ xs) ≡ (if is_refusal x then 1 else 0) + count_refused xs
count_by-cons-refused x xs = sum_by-cons (λ (o : Outcome). if is_refusal o then 1 else 0) x xs

lines_end : (k k' : ℕ) (o p : Outcome) (all rest : List Outcome) → all ≡ o ∷ rest → o ≡ p → k' ≡ k + 1 → lines k all ≡ line_of (k + 1) p ++ lines k' rest
lines_end k k' o p all rest e f h = rw (e, f, h) refl

length_end : (k k' : ℕ) (o : Outcome) (all rest : List Outcome) → all ≡ o ∷ rest → k' ≡ k + 1 → k + length all ≡ k' + length rest
length_end k k' o all rest e h = rw e (omega (arith, h))

-- the outcomes from a statement on that has ended
same_end : (old new : Session) (t t' : Option (List ℕ)) (m m' : Option ℕ) (h : Ends old new t t' m m') (o : Outcome) (all rest : List Outcome) → all ≡ o ∷ rest → o ≡ h.outcome
    → Same old new (line_of (old.statements + 1) h.outcome) all rest
same_end old new t t' m m' h o all rest parts same = record {
  lines = lines_end old.statements new.statements o h.outcome all rest parts same h.statements;
  statements = length_end old.statements new.statements o all rest parts h.statements;
  printed = count_more is_printed old.printed new.printed o h.outcome all rest count_printed count_by-cons-printed parts same h.printed;
  refused = count_more is_refusal old.refused new.refused o h.outcome all rest count_refused count_by-cons-refused parts same h.refused;
}

pub advances_end : (old new : Session) (t t' : Option (List ℕ)) (m m' : Option ℕ) → Ends old new t t' m m' → Advances old new t t' m m' (59 ∷ [])
advances_end old new t t' m m' h = record {
  written = line_of (old.statements + 1) h.outcome;
  appended = h.appended;
  continues = λ r. record {
    forth = λ rest left script.
        let script' : IsScript new.names r rest left = rw h.pending at (at_kept new r rest left script) in (
          h.outcome ∷ rest,
          from_kept old (59 ∷ r) (h.outcome ∷ rest) left (script_end old.names old.pending r h.outcome new.names rest left old.text h.is script'),
          same_end old new t t' m m' h h.outcome (h.outcome ∷ rest) rest refl refl,
        );
    back = λ all left script.
        let (o, next, rest, parts, is, script') = from_script_end old.names old.pending r all left old.text (at_kept old (59 ∷ r) all left script) in
        let same = outcome_once old.names old.pending o h.outcome next new.names h.values is h.is in
        let script'' : IsScript new.names r rest left = subst (λ (n : Names). IsScript n r rest left) same.1 script' in (
          rest,
          from_kept new r rest left (rw h.pending script''),
          same_end old new t t' m m' h o all rest parts same.0,
        );
  };
  used = h.used;
}

-- what a statement that stopped leaves
leaves_end : (old new : Session) → (new.names ≡ old.names) ⊎ ((outcome : Outcome) × IsOutcome old.names old.pending outcome new.names) → Leaves old (59 ∷ []) new.names
leaves_end old new (inl same) = leaves_none old (59 ∷ []) new.names same
leaves_end old new (inr (outcome, is)) = record {
  front = 59 ∷ [];
  behind = [];
  outcomes = outcome ∷ [];
  parts = refl;
  are = from_kept old (59 ∷ []) (outcome ∷ []) new.names (script_end old.names old.pending [] outcome new.names [] new.names old.text is (refl, refl));
}

pub stops_end : (old new : Session) (t t' : Option (List ℕ)) → EndStops old new t t' → Stops old new t t' (59 ∷ [])
stops_end old new t t' h = record {
  written = h.written;
  appended = h.appended;
  prefix = λ r all left script.
      let (o, next, rest, parts, is, script') = from_script_end old.names old.pending r all left old.text (at_kept old (59 ∷ r) all left script) in
      let (more, whole) = h.prefix o next is in
      let behind = lines (old.statements + 1) rest in
      (more ++ behind, ap (lines old.statements) parts ∙ ap (λ l. l ++ behind) whole ∙ append_assoc h.written more behind);
  names = leaves_end old new h.names;
}

-- the line of the statement is a part of the transcript
pub steady_end : (old : Session) (m : Option ℕ) (result : Result Unit SessionFault) → EndIfSteady old m result → WritesIfSteady old m (59 ∷ []) result
steady_end old m result h = record {
  never = λ n r all left room script fits.
      let (o, next, rest, parts, is, script') = from_script_end old.names old.pending r all left old.text (at_kept old (59 ∷ r) all left script) in
      let line = line_of (old.statements + 1) o in
      let sizes : length (lines old.statements all) ≡ length line + length (lines (old.statements + 1) rest) =
      ap (λ os. length (lines old.statements os)) parts ∙ length-append line (lines (old.statements + 1) rest) in
      h n o next room is (omega arith);
}

-- The byte goes on with the pending text.
pub advances_byte : (old new : Session) (t : Option (List ℕ)) (m : Option ℕ) (c : ℕ) → new.names ≡ old.names → new.statements ≡ old.statements → new.printed ≡ old.printed
    → new.refused ≡ old.refused → new.pending ≡ old.pending ++ c ∷ [] → Advances old new t t m m (c ∷ [])
advances_byte old new t m c names statements printed refused pending = record {
  written = [];
  appended = Appends-nil t;
  continues = λ r. continues_text old new (c ∷ r) r names statements printed refused (sym (ap (λ l. l ++ r) pending ∙ append_assoc old.pending (c ∷ []) r));
  used = λ n e fits. e ∙ ap Some (omega arith);
}

-- A blank before a text counts for nothing.
pub advances_blank : (s : Session) (t : Option (List ℕ)) (m : Option ℕ) (c : ℕ) → s.pending ≡ [] → is_end c ≡ false → is_blank c ≡ true → Advances s s t t m m (c ∷ [])
advances_blank s t m c empty e blank = record {
  written = [];
  appended = Appends-nil t;
  continues = λ r. record {
    forth = λ rest left script.
        let script' : IsScript s.names r rest left = rw empty at (at_kept s r rest left script) in
        (rest, from_kept s (c ∷ r) rest left (rw empty (script_blank s.names c r rest left e blank script')), same_counts s s rest refl refl refl);
    back = λ all left script.
        let script' : IsScript s.names (c ∷ r) all left = rw empty at (at_kept s (c ∷ r) all left script) in
        (all, from_kept s r all left (rw empty (from_script_blank s.names c r all left e blank script')), same_counts s s all refl refl refl);
  };
  used = λ n e' fits. e' ∙ ap Some (omega arith);
}

-- the bytes before an index, the one there, and those after it
pub around : (xs : List ℕ) (i : ℕ) → i < length xs → take i xs ++ ((get_or xs i 0 ∷ []) ++ drop (i + 1) xs) ≡ xs
around xs i h = ap (λ l. take i xs ++ l) (sym (rw add-one (drop-cons xs i 0 h))) ∙ take-append-drop i xs

-- The end of the input runs what is pending.
pub script_rest : (s : Session) → Script s [] (last_of s) s.names
script_rest s = from_kept s [] (last_of s) s.names (rw append-nil (script_last s.names s.pending s.text))

pub from_script_rest : (s : Session) (os : List Outcome) (left : Names) → Script s [] os left → (os ≡ last_of s) × (left ≡ s.names)
from_script_rest s os left script = from_script_last s.names s.pending os left s.text (rw append-nil at (at_kept s [] os left script))

pub no_last : (s : Session) → (length s.pending == 0) ≡ true → last_of s ≡ []
no_last s h = ap unfinished (nil_from_length s.pending (eqb-true _ _ h))

unfinished_some : (text : List ℕ) → (length text == 0) ≡ false → unfinished text ≡ Refused (unfinished_refusal text) ∷ []
unfinished_some [] h = absurd (cc)
unfinished_some (c ∷ text) h = refl

pub last_some : (s : Session) → (length s.pending == 0) ≡ false → last_of s ≡ Refused (unfinished_refusal s.pending) ∷ []
last_some s h = unfinished_some s.pending h

pub last_line : (s : Session) → (length s.pending == 0) ≡ false → lines s.statements (last_of s) ≡ line_of (s.statements + 1) (Refused (unfinished_refusal s.pending))
last_line s h = ap (lines s.statements) (last_some s h) ∙ append-nil (line_of (s.statements + 1) (Refused (unfinished_refusal s.pending)))

-- nothing was pending
pub finishes_none : (s : Session) (t : Option (List ℕ)) → (length s.pending == 0) ≡ true → Finishes s s t t
finishes_none s t h = record {
  outcomes = last_of s;
  are = script_rest s;
  appended = rw (no_last s h) (Appends-nil t);
  statements = rw (no_last s h) (omega arith);
  printed = rw (no_last s h) (omega arith);
  refused = rw (no_last s h) (omega arith);
}

-- a text was pending, and its refusal was told
pub finishes_some : (old new : Session) (t t' : Option (List ℕ)) → (length old.pending == 0) ≡ false → Appends t t' (lines old.statements (last_of old))
    → new.names ≡ old.names → new.statements ≡ old.statements + 1 → new.printed ≡ old.printed → new.refused ≡ old.refused + 1 → Finishes old new t t'
finishes_some old new t t' h appended names statements printed refused = record {
  outcomes = last_of old;
  are = subst (λ (n : Names). Script old [] (last_of old) n) (sym names) (script_rest old);
  appended = appended;
  statements = statements ∙ ap (λ (os : List Outcome). old.statements + length os) (sym (last_some old h));
  printed = rw (last_some old h) (omega (arith, printed));
  refused = refused ∙ ap (λ (os : List Outcome). old.refused + count_refused os) (sym (last_some old h));
}

-- the end of the input has one script
last_once : (s : Session) (os all : List Outcome) (left left' : Names) → Script s [] os left → Script s [] all left' → all ≡ os
last_once s os all left left' script script' = (from_script_rest s all left' script').0 ∙ sym (from_script_rest s os left script).0

-- a prefix of its lines was written
pub stops_last : (s : Session) (t t' : Option (List ℕ)) → AppendsPrefix t t' (lines s.statements (last_of s)) → StopsWhole s [] t t'
stops_last s t t' (front, appended, (more, whole)) = record {
  written = front;
  appended = appended;
  prefix = λ all left script. (more, ap (lines s.statements) (from_script_rest s all left script).0 ∙ whole);
}

-- nothing was written
pub stops_unwritten : (s : Session) (t : Option (List ℕ)) (bytes : List ℕ) → StopsWhole s bytes t t
stops_unwritten s t bytes = record { written = []; appended = Appends-nil t; prefix = λ all left script. (lines s.statements all, refl) }

-- its lines were written, and then the flush failed
pub stops_unflushed : (s new : Session) (t t' t'' : Option (List ℕ)) → Finishes s new t t' → Keeps t' t'' → StopsWhole s [] t t''
stops_unflushed s new t t' t'' h keeps = record {
  written = lines s.statements h.outcomes;
  appended = Appends-kept _ _ _ _ h.appended keeps;
  prefix = λ all left script.
      ([], ap (lines s.statements) (last_once s h.outcomes all new.names left h.are script) ∙ sym (append-nil (lines s.statements h.outcomes)));
}

pub finishes_flushed : (s new : Session) (t t' t'' : Option (List ℕ)) → Finishes s new t t' → Keeps t' t'' → Finishes s new t t''
finishes_flushed s new t t' t'' h keeps = record {
  outcomes = h.outcomes;
  are = h.are;
  appended = Appends-kept _ _ _ _ h.appended keeps;
  statements = h.statements;
  printed = h.printed;
  refused = h.refused;
}

-- room for the transcript is room for the last line
pub last_fits : (s : Session) (n : ℕ) (all : List Outcome) (left : Names) → Script s [] all left → length (lines s.statements all) ≤ n → length (lines s.statements (last_of s)) ≤ n
last_fits s n all left script fits = subst (λ (os : List Outcome). length (lines s.statements os) ≤ n) (from_script_rest s all left script).0 fits

-- a send that fails does not meet a steady sink with room
pub never_fails : (m m' : Option ℕ) (sent whole : List ℕ) (x : SessionFault) → sent ≡ whole → SendsSteadily m m' (length sent) (Err x)
    → (n : ℕ) → m ≡ Some n → length whole ≤ n → ⊥
never_fails m m' sent whole x same sends n room fits =
    let enough : length sent ≤ n = rw same fits in
    let never : false ≡ true = (sends n room enough).0 in
    absurd (cc)

-- A whole input was fed, and then the end.
pub runs_whole : (a b c : Session) (t t' t'' : Option (List ℕ)) (m m' : Option ℕ) (bytes : List ℕ) → Advances a b t t' m m' bytes → Finishes b c t' t'' → Runs a c bytes t t''
runs_whole a b c t t' t'' m m' bytes first last =
    let (all, script, same) = (first.continues []).forth last.outcomes c.names last.are in
    record {
      outcomes = all;
      are = subst (λ (l : List ℕ). Script a l all c.names) (append-nil bytes) script;
      appended = subst (λ (l : List ℕ). Appends t t'' l) (sym same.lines) (Appends-trans _ _ _ _ _ first.appended last.appended);
      refused = last.refused ∙ sym same.refused;
    }

pub stops_whole : (s new : Session) (t t' : Option (List ℕ)) (bytes : List ℕ) → Stops s new t t' bytes → StopsWhole s bytes t t'
stops_whole s new t t' bytes h = record {
  written = h.written;
  appended = h.appended;
  prefix = λ all left script. h.prefix [] all left (subst (λ (l : List ℕ). Script s l all left) (sym (append-nil bytes)) script);
}

pub steady_whole : (s : Session) (m : Option ℕ) (bytes : List ℕ) (result : Result Unit SessionFault) → WritesIfSteady s m bytes result → WholeIfSteady s m bytes result
steady_whole s m bytes result h = record {
  never = λ n all left room script fits. h.never n [] all left room (subst (λ (l : List ℕ). Script s l all left) (sym (append-nil bytes)) script) fits;
}

pub stops_at_end : (a b : Session) (t t' t'' : Option (List ℕ)) (m m' : Option ℕ) (bytes : List ℕ) → Advances a b t t' m m' bytes → StopsWhole b [] t' t'' → StopsWhole a bytes t t''
stops_at_end a b t t' t'' m m' bytes first last = record {
  written = first.written ++ last.written;
  appended = Appends-trans _ _ _ _ _ first.appended last.appended;
  prefix = λ all left script.
      let (rest, script', same) = (first.continues []).back all left (subst (λ (l : List ℕ). Script a l all left) (sym (append-nil bytes)) script) in
      let (more, whole) = last.prefix rest left script' in
      (more, same.lines ∙ ap (λ l. first.written ++ l) whole ∙ sym (append_assoc first.written last.written more));
}

-- the room that is left after a whole input is enough for its end
pub steady_at_end : (a b : Session) (t t' : Option (List ℕ)) (m m' : Option ℕ) (bytes : List ℕ) (result : Result Unit SessionFault) → Advances a b t t' m m' bytes
    → WholeIfSteady b m' [] result → WholeIfSteady a m bytes result
steady_at_end a b t t' m m' bytes result first last = record {
  never = λ n all left room script fits.
      let (rest, script', same) = (first.continues []).back all left (subst (λ (l : List ℕ). Script a l all left) (sym (append-nil bytes)) script) in
      let sizes : length (lines a.statements all) ≡ length first.written + length (lines b.statements rest) =
      ap length same.lines ∙ length-append first.written (lines b.statements rest) in
      last.never (n - length first.written) rest left (first.used n room (omega arith)) script' (omega arith);
}
