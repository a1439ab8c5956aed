-- Edges of which some parts are asked for, and the others are whatever they may be.
use Rattle.std.proofs.Common.{ℕ, Bool, false, List, Option}
use Rattle.press_sink.specs.Outputs.{MadeOutput}
use Rattle.press_files.specs.Edge.{Edge}

-- before a call
abbrev pub first : (unread written told : Option (List ℕ)) (made : Option (List MadeOutput)) → Edge
first unread written told made = record {
  unread = unread;
  failed = false;
  reads = 0;
  lost = false;
  written = written;
  waits = false;
  cut = false;
  told = told;
  made = made;
  holds = false;
  spoiled = false;
}

-- and behind it
abbrev pub last : (unread : Option (List ℕ)) (failed : Bool) (reads : ℕ) (cut spoiled : Bool) (written told : Option (List ℕ)) (made : Option (List MadeOutput)) → Edge
last unread failed reads cut spoiled written told made = record {
  unread = unread;
  failed = failed;
  reads = reads;
  lost = false;
  written = written;
  waits = false;
  cut = cut;
  told = told;
  made = made;
  holds = false;
  spoiled = spoiled;
}
