-- What the proof of exported_mistakes_are_determined goes by. Proved; nothing here needs to be believed.
use Rattle.mistake_rules.specs.Outcome.{Listing}
use Rattle.text_listing.specs.Checking.{CheckOutcome}
use Rattle.export_listings.specs.ExportedMistakes.{ExportedListing, ExportedCheckOutcome}

unfoldable pub from_listing : Listing → ExportedListing
from_listing o = record { answer = record { refusal = o.answer.refusal; place = o.answer.place; mistakes = o.answer.mistakes }; mistakes = o.buffer }

unfoldable pub from_check : CheckOutcome → ExportedCheckOutcome
from_check o =
    record {
      answer = record {
        refusal = o.answer.refusal;
        place = o.answer.place;
        base = o.answer.base;
        records = o.answer.records;
        events = o.answer.events;
        errors = o.answer.errors;
        mistakes = o.answer.mistakes;
      };
      records = o.records;
      events = o.events;
      errors = o.errors;
      mistakes = o.mistakes;
    }
