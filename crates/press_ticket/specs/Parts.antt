-- What the parts of a ticket hold.
use Rattle.press_ticket.specs.declared.parts.Required as required
use Rattle.press_ticket.specs.declared.parts.Optional as optional
use Rattle.press_ticket.specs.Reading.{Required, Optional}

abbrev pub required_parts : required.Required → Required
required_parts parts = record {
  process = parts.process.now;
  job_id = parts.job_id.now;
  page_count = parts.page_count;
  amount = parts.amount;
}

abbrev pub optional_parts : optional.Optional → Optional
optional_parts parts = record {
  run_list = parts.run_list.items;
  media = parts.media;
  sides = parts.sides;
  collate = parts.collate;
  resolution = parts.resolution;
}
