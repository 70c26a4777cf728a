-- A log that is worked on a module: what each line does, and what is left of module, memory and reply.
use Rattle.std.specs.Prelude.{ℕ, suc, Bool, true, false, cond, not, ◌||◌, List, [], ◌∷◌, ◌++◌, length, drop, Some, None, Ok, Err, codes, Option, Result, nat_lt}
use Rattle.std.specs.Str.{bytes_eq}
use Rattle.memory.specs.Model.{Mem}
use Rattle.chip.specs.declared.refusals.Refusal.{Refusal}
use Rattle.chip.specs.declared.refusals.Refusal.TheVariants.{Unfit, NoNames, Unreadable, LogSize}
use Rattle.x1226.specs.declared.state.State.{State}
use Rattle.x1226.specs.Stop.{Left}
use Rattle.x1226.specs.Frame.{pulls}
use Rattle.x1226.specs.Step.{told}
use Rattle.runlog.specs.declared.calls.LineCall.{LineCall}
use Rattle.runlog.specs.declared.reply.Row.{Row}
use Rattle.runlog.specs.Texts.{lf, lines}
use Rattle.runlog.specs.Calls.{line_call, calls_of}
use Rattle.runlog.specs.Left.{left_from}
use Rattle.runlog.specs.Reply.{row_of, row_text}

-- The longest log, and the least room for its reply.
abbrev pub most_log : ℕ
most_log = 8192

abbrev pub least_reply : ℕ
least_reply = 32768

-- The first line of every log.
abbrev pub names : List ℕ
names = codes "call one two"

-- The first line of every reply, with its LF.
abbrev pub reply_names : List ℕ
reply_names = codes "line sda fault area address" ++ lf ∷ []

-- The row of a line that is refused without a call: the level on SDA as it stands, and the refusal.
abbrev pub refused_row : ℕ → State → Refusal → Row
refused_row n s r = row_of n (record { sda = not (pulls s.phase); refusal = Some r })

-- A line that was worked: whether it could be read, its row, and module and memory after it.
pub record Lined : Type 0 where
  pub goes_on : Bool
  pub row : Row
  pub state : State
  pub mem : Mem

-- A line that can be read makes its calls; its row tells the level on SDA after them and the refusal of the last.
abbrev pub called : ℕ → Left → Lined
called n l = record { goes_on = true; row = row_of n (told l); state = l.state; mem = l.mem }

abbrev pub line_asks : ℕ → Option LineCall → State → Mem → Lined
line_asks n (Some c) s m = called n (left_from s m (calls_of c))
line_asks n None s m = record { goes_on = false; row = refused_row n s Unreadable; state = s; mem = m }

-- Line n.
abbrev pub line_worked : ℕ → List ℕ → State → Mem → Lined
line_worked n text s m = line_asks n (line_call text) s m

-- What a log left: the rows of its lines, module and memory.
pub record Ran : Type 0 where
  pub rows : List Row
  pub state : State
  pub mem : Mem

-- After a line that could be read the next one goes on; an unreadable one is the last.
abbrev pub after_line : Lined → Ran → Ran
after_line l rest =
    record {
      rows = l.row ∷ cond l.goes_on rest.rows [];
      state = cond l.goes_on rest.state l.state;
      mem = cond l.goes_on rest.mem l.mem;
    }

-- The lines of a log from line n on.
unfoldable pub lines_worked : ℕ → List (List ℕ) → State → Mem → Ran
lines_worked n [] s m = record { rows = []; state = s; mem = m }
lines_worked n (l ∷ ls) s m =
    after_line (line_worked n l s m) (lines_worked (suc n) ls (line_worked n l s m).state (line_worked n l s m).mem)

-- A first line that is not the names, or no line at all: nothing is run.
abbrev pub not_named : State → Mem → Ran
not_named s m = record { rows = refused_row 1 s NoNames ∷ []; state = s; mem = m }

-- The value lines of a log whose first line is the names.
abbrev pub named : List (List ℕ) → Option (List (List ℕ))
named [] = None
named (first ∷ values) = cond (bytes_eq first names) (Some values) None

-- The value lines are worked from line 2 on.
abbrev pub values_worked : Option (List (List ℕ)) → State → Mem → Ran
values_worked None s m = not_named s m
values_worked (Some values) s m = lines_worked 2 values s m

abbrev pub log_worked : List ℕ → State → Mem → Ran
log_worked log s m = values_worked (named (lines log)) s m

-- The text of rows, and of a whole reply.
abbrev pub rows_text : List Row → List ℕ
rows_text [] = []
rows_text (r ∷ rs) = row_text r ++ rows_text rs

abbrev pub reply_text : List Row → List ℕ
reply_text rows = reply_names ++ rows_text rows

-- A text at the front of some room; the bytes after it are as they were.
abbrev pub at_front : List ℕ → List ℕ → List ℕ
at_front text room = text ++ drop (length text) room

-- What the call answers, and what it leaves of reply, module and memory.
pub record Logged : Type 0 where
  pub answer : Result ℕ Refusal
  pub reply : List ℕ
  pub state : State
  pub mem : Mem

abbrev pub unlogged : Refusal → State → Mem → List ℕ → Logged
unlogged r s m room = record { answer = Err r; reply = room; state = s; mem = m }

-- It answers the bytes written.
abbrev pub replied : Ran → List ℕ → Logged
replied ran room =
    record {
      answer = Ok (length (reply_text ran.rows));
      reply = at_front (reply_text ran.rows) room;
      state = ran.state;
      mem = ran.mem;
    }

-- An unfit memory is refused first, then a log too long or too little room; else the log is worked.
abbrev pub run_log : State → Mem → List ℕ → List ℕ → Logged
run_log s m log room =
    cond m.fit
    (cond (nat_lt most_log (length log) || nat_lt (length room) least_reply) (unlogged LogSize s m room)
    (replied (log_worked log s m) room))
    (unlogged Unfit s m room)
