-- What the proof of exported_texts_are_determined goes by. Proved; nothing here needs to be believed.
use Rattle.lex.specs.Lexed.{LexOutcome}
use Rattle.text_rules.specs.TextOutcome.{TextOutcome}
use Rattle.text_steps.specs.TextVerdicts.{TextJudgement}
use Rattle.export_texts.specs.ExportedVerdicts.{plain_verdict}
use Rattle.export_texts.specs.ExportedTexts.{ExportedLexedOutcome, ExportedTextOutcome, ExportedTextJudgement}

unfoldable pub from_lexed : LexOutcome → ExportedLexedOutcome
from_lexed o = record { answer = record { refusal = o.answer.refusal; place = o.answer.place; base = o.answer.base; records = o.answer.records }; records = o.buffer }

unfoldable pub from_text : TextOutcome → ExportedTextOutcome
from_text o =
    record {
      answer = record {
        refusal = o.answer.refusal;
        place = o.answer.place;
        base = o.answer.base;
        records = o.answer.records;
        events = o.answer.events;
        errors = o.answer.errors;
      };
      records = o.records;
      events = o.events;
      errors = o.errors;
    }

unfoldable pub from_judged : TextJudgement → ExportedTextJudgement
from_judged j = record { verdict = record { fits = j.verdict.fits; refusal = j.verdict.refusal; place = j.verdict.place }; records = j.records; events = j.events }

unfoldable pub held : ExportedTextJudgement → TextJudgement
held x = record { verdict = plain_verdict x.verdict; records = x.records; events = x.events }
