-- What `is_quiet` and `has_no_multi_line_key` ask of an answer and of event words. Assumes nothing.
use Rattle.std.specs.Prelude.{ℕ, ◌+◌, ◌*◌, ◌<◌, ◌≡◌, false, List, [], get_or}
use Rattle.rules.specs.declared.answer.Answer.{Answer}
use Rattle.rules.specs.Answer.{event_size}
use Rattle.fitting.specs.Quiet.{QuietRun, multi_line_key, NoMultiLineKey}

-- the answer and the event words are those of a quiet run; the error words do not matter
abbrev pub QuietAnswer : Answer → List ℕ → Type 0
QuietAnswer answer events = QuietRun (record { answer = answer; events = events; errors = [] })

-- none of the first n events has an empty span
abbrev pub NoneEmpty : ℕ → List ℕ → Type 0
NoneEmpty n events = (i : ℕ) → i < n → get_or events (i * event_size + 2) 0 ≡ get_or events (i * event_size + 3) 0 → ⊥

-- no key of the answer and the event words is a multi-line string
abbrev pub SingleLineAnswer : Answer → List ℕ → Type 0
SingleLineAnswer answer events = NoMultiLineKey (record { answer = answer; events = events; errors = [] })

-- none of the first n events is a key that is a multi-line string
abbrev pub NoneMultiLine : ℕ → List ℕ → Type 0
NoneMultiLine n events = (i : ℕ) → i < n → multi_line_key (get_or events (i * event_size) 0) (get_or events (i * event_size + 1) 0) ≡ false
