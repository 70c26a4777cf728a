-- Value lines worked one after the other.
use Rattle.std.proofs.Common.{◌≡◌, ℕ, suc, ◌+◌, ◌*◌, ◌≤◌, true, false, cond, List, [], ◌∷◌, ◌++◌, length, Some, None, Option, sym, refl, ap, ◌∙◌, subst, append_assoc, add-one, arith}
use Rattle.std.proofs.lemmas.List.{append-nil}
use Rattle.std.proofs.lemmas.Bool.{false≢true}
use Rattle.memory.specs.Model.{Mem}
use Rattle.x1226.specs.declared.state.State.{State}
use Rattle.runlog.specs.declared.board.Board.{Board}
use Rattle.runlog.specs.declared.calls.LineCall.{LineCall}
use Rattle.runlog.specs.declared.reply.Reply.{Reply}
use Rattle.runlog.specs.Back.{ReadsBack, RowsReadBack}
use Rattle.runlog.specs.Board.{IsLeft, lined, ran}
use Rattle.runlog.specs.Calls.{line_call}
use Rattle.runlog.specs.Lines.{bytes_of}
use Rattle.runlog.specs.Reply.{Appends, row_text}
use Rattle.runlog.specs.Run.{Lined, line_asks, Ran, after_line, lines_worked, rows_text}
use Rattle.runlog.specs.Texts.{lines}
use Rattle.runlog.proofs.Back.{none_read_back, more_read_back}
use Rattle.runlog.proofs.Lengths.{readable_long}
use Rattle.runlog.proofs.Replies.{appends_append}

after_true : (l : Lined) (r : Ran) → l.goes_on ≡ true → after_line l r ≡ record { rows = l.row ∷ r.rows; state = r.state; mem = r.mem }
after_true l r h =
    ap (λ b. record { rows = l.row ∷ cond b r.rows []; state = cond b r.state l.state; mem = cond b r.mem l.mem }) h

after_false : (l : Lined) (r : Ran) → l.goes_on ≡ false → after_line l r ≡ record { rows = l.row ∷ []; state = l.state; mem = l.mem }
after_false l r h =
    ap (λ b. record { rows = l.row ∷ cond b r.rows []; state = cond b r.state l.state; mem = cond b r.mem l.mem }) h

-- A line that goes on is eight bytes long.
asks_long : (n : ℕ) (o : Option LineCall) (s : State) (m : Mem) (t : List ℕ) → line_call t ≡ o → (line_asks n o s m).goes_on ≡ true → 8 ≤ length t
asks_long n (Some c) s m t e h = readable_long t c e
asks_long n None s m t e h = absurd (false≢true h)

module _ {M : Type 0} (holds : M → Mem) where
  -- What the lines still to come do, from line n on.
  abbrev pub ahead : ℕ → List ℕ → Board M → Ran
  ahead n text b = lines_worked n (lines text) b.chip.now.state (holds b.memory.now)

  -- A run that has come from its start to line n: what is ahead ends as what was ahead at the start.
  pub record Going (start now : Board M) (begun reply : Reply) (text rest : List ℕ) (n : ℕ) : Type 0 where
    pub chip : now.chip.ghost_name ≡ start.chip.ghost_name
    pub memory : now.memory.ghost_name ≡ start.memory.ghost_name
    pub done : List ℕ
    pub written : Appends begun reply done
    pub rows : done ++ rows_text (ahead n rest now).rows ≡ rows_text (ahead 2 text start).rows
    pub state : (ahead n rest now).state ≡ (ahead 2 text start).state
    pub mem : (ahead n rest now).mem ≡ (ahead 2 text start).mem
    pub back : RowsReadBack (ahead n rest now).rows → RowsReadBack (ahead 2 text start).rows
    pub room : 4 * reply.used + 15 * bytes_of (lines rest) ≤ 4 * begun.used + 15 * bytes_of (lines text)
    pub count : n + bytes_of (lines rest) ≤ 2 + bytes_of (lines text)

  -- A run that is over.
  pub record Gone (start after : Board M) (begun reply : Reply) (text : List ℕ) : Type 0 where
    pub left : IsLeft holds start after (ran holds start text).state (ran holds start text).mem
    pub written : Appends begun reply (rows_text (ran holds start text).rows)
    pub back : RowsReadBack (ran holds start text).rows

  -- The same by another name of the line's number.
  going_at : (start now : Board M) (begun reply : Reply) (text rest : List ℕ) (n m : ℕ) → m ≡ n
      → Going start now begun reply text rest n → Going start now begun reply text rest m
  going_at start now begun reply text rest n m e k = subst (Going start now begun reply text rest) (sym e) k

  -- No line is left.
  pub going_end : (start now : Board M) (begun reply : Reply) (text rest : List ℕ) (n : ℕ) → Going start now begun reply text rest n
      → lines rest ≡ [] → Gone start now begun reply text
  unfolding lines_worked
  going_end start now begun reply text rest n k none =
      let is : ahead n rest now ≡ record { rows = []; state = now.chip.now.state; mem = holds now.memory.now } =
      ap (λ ls. lines_worked n ls now.chip.now.state (holds now.memory.now)) none in
      record {
        left = record {
          state = ap (λ (a : Ran). a.state) (sym is) ∙ k.state;
          mem = ap (λ (a : Ran). a.mem) (sym is) ∙ k.mem;
          chip = k.chip;
          memory = k.memory;
        };
        written = subst (Appends begun reply)
            (sym (append-nil k.done) ∙ ap (λ (a : Ran). k.done ++ rows_text a.rows) (sym is) ∙ k.rows) k.written;
        back = k.back (subst (λ (a : Ran). RowsReadBack a.rows) (sym is) none_read_back);
      }

  module _ (start now after : Board M) (begun reply full : Reply) (text rest line more : List ℕ) (from n next : ℕ) (is-from : n ≡ from) (is-next : next ≡ n + 1)
      (came : Going start now begun reply text rest from) (split : lines rest ≡ line ∷ lines more)
      (left : IsLeft holds now after (lined holds now n line).state (lined holds now n line).mem)
      (written : Appends reply full (row_text (lined holds now n line).row)) (short : full.used ≤ reply.used + 30)
      (back : ReadsBack (lined holds now n line).row) where
    k : Going start now begun reply text rest n
    k = going_at start now begun reply text rest from n is-from came

    -- What the line at hand does, and the lines after it.
    abbrev worked_now : Lined
    worked_now = lined holds now n line

    split_ahead : ahead n rest now ≡ after_line worked_now (lines_worked (suc n) (lines more) worked_now.state worked_now.mem)
    unfolding lines_worked
    split_ahead = ap (λ ls. lines_worked n ls now.chip.now.state (holds now.memory.now)) split

    same : lines_worked (suc n) (lines more) worked_now.state worked_now.mem ≡ ahead (suc n) more after
    same i = lines_worked (suc n) (lines more) (sym left.state i) (sym left.mem i)

    -- A line that could be read.
    going_suc : worked_now.goes_on ≡ true → Going start after begun full text more (suc n)
    going_suc goes =
        let r : Ran = ahead (suc n) more after in
        let row = row_text worked_now.row in
        let is : ahead n rest now ≡ record { rows = worked_now.row ∷ r.rows; state = r.state; mem = r.mem } =
        split_ahead ∙ ap (after_line worked_now) same ∙ after_true worked_now r goes in
        let long : 8 ≤ length line = asks_long n (line_call line) now.chip.now.state (holds now.memory.now) line refl goes in
        let bytes : bytes_of (lines rest) ≡ length line + 1 + bytes_of (lines more) = ap bytes_of split in
        record {
          chip = left.chip ∙ k.chip;
          memory = left.memory ∙ k.memory;
          done = k.done ++ row;
          written = appends_append begun reply full k.done row k.written written;
          rows = append_assoc k.done row (rows_text r.rows) ∙ ap (λ (a : Ran). k.done ++ rows_text a.rows) (sym is) ∙ k.rows;
          state = ap (λ (a : Ran). a.state) (sym is) ∙ k.state;
          mem = ap (λ (a : Ran). a.mem) (sym is) ∙ k.mem;
          back = λ rest. k.back (subst (λ (a : Ran). RowsReadBack a.rows) (sym is) (more_read_back worked_now.row r.rows back rest));
          room = omega (arith, k.room);
          count = omega (arith, k.count);
        }

    pub going_more : true ≡ worked_now.goes_on → Going start after begun full text more next
    going_more goes = going_at start after begun full text more (suc n) next (is-next ∙ add-one n) (going_suc (sym goes))

    -- A line that could not.
    pub going_stop : false ≡ worked_now.goes_on → Gone start after begun full text
    going_stop stops =
        let row = row_text worked_now.row in
        let is : ahead n rest now ≡ record { rows = worked_now.row ∷ []; state = worked_now.state; mem = worked_now.mem } =
        split_ahead ∙ after_false worked_now (lines_worked (suc n) (lines more) worked_now.state worked_now.mem) (sym stops) in
        record {
          left = record {
            state = left.state ∙ ap (λ (a : Ran). a.state) (sym is) ∙ k.state;
            mem = left.mem ∙ ap (λ (a : Ran). a.mem) (sym is) ∙ k.mem;
            chip = left.chip ∙ k.chip;
            memory = left.memory ∙ k.memory;
          };
          written = subst (Appends begun full)
              (ap (λ t. k.done ++ t) (sym (append-nil row)) ∙ ap (λ (a : Ran). k.done ++ rows_text a.rows) (sym is) ∙ k.rows)
              (appends_append begun reply full k.done row k.written written);
          back = k.back (subst (λ (a : Ran). RowsReadBack a.rows) (sym is) (more_read_back worked_now.row [] back none_read_back));
        }
