-- What a ticket holds.
use Rattle.std.specs.Prelude.{string_bytes}
use Rattle.press_ticket.specs.declared.ticket.Ticket.TheInside.{Inside}
use Rattle.press_ticket.specs.Ticket.{JobTicket}

abbrev pub job_ticket : Inside → JobTicket
job_ticket t = record {
  job_id = string_bytes t.job_id;
  page_count = t.page_count;
  amount = t.amount;
  run_list = t.run_list.items;
  media = t.media;
  sides = t.sides;
  collate = t.collate;
  resolution = t.resolution;
}
