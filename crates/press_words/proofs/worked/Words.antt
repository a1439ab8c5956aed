-- What some words ask for.
use Rattle.std.specs.Prelude.{◌≡◌, [], ◌∷◌, Some, None, codes, false, refl, true}
use Rattle.clap.proofs.OnLiterals.{clap_on_literals}
use Rattle.press_words.specs.Words.{Standard, FileNamed, Listed, SummedOf, FilesBy, Answered, AsText, ExplainedOf, DebuggedOf, TracedOf, PageTo, StreamTo, JobTo, TablesTold, arguments}

nothing : arguments (codes "press" ∷ []) ≡ Some (record { source = Standard; made = Listed [] })
nothing = refl

listing : arguments (codes "press" ∷ codes "print" ∷ codes "--list" ∷ codes "-" ∷ []) ≡ Some (record { source = Standard; made = Listed [] })
unfolding clap_on_literals
listing = refl

-- with digests, by the one flag and by both
sums : arguments (codes "press" ∷ codes "print" ∷ codes "--sums" ∷ codes "-" ∷ []) ≡ Some (record { source = Standard; made = SummedOf [] })
unfolding clap_on_literals
sums = refl

listing_with_sums : arguments (codes "press" ∷ codes "print" ∷ codes "--list" ∷ codes "--sums" ∷ codes "a.pcl" ∷ []) ≡ Some (record { source = FileNamed (codes "a.pcl"); made = SummedOf [] })
unfolding clap_on_literals
listing_with_sums = refl

listing_with_template : arguments (codes "press" ∷ codes "print" ∷ codes "a.pcl" ∷ codes "b" ∷ codes "--list" ∷ []) ≡ Some (record { source = FileNamed (codes "a.pcl"); made = Listed [] })
unfolding clap_on_literals
listing_with_template = refl

files : arguments (codes "press" ∷ codes "print" ∷ codes "a.pcl" ∷ codes "page-%d.pbm" ∷ []) ≡ Some (record { source = FileNamed (codes "a.pcl"); made = FilesBy [] (codes "page-%d.pbm") })
unfolding clap_on_literals
files = refl

no_template : arguments (codes "press" ∷ codes "print" ∷ codes "a.pcl" ∷ []) ≡ None
unfolding clap_on_literals
no_template = refl

no_input : arguments (codes "press" ∷ codes "print" ∷ []) ≡ None
unfolding clap_on_literals
no_input = refl

-- with two defaults, each of which has a line in front of the stream
with_defaults : arguments (codes "press" ∷ codes "print" ∷ codes "--default" ∷ codes "PAPER=a4" ∷ codes "--default=COPIES=2" ∷ codes "a.pcl" ∷ codes "page-%d.pbm" ∷ [])
    ≡ Some (record { source = FileNamed (codes "a.pcl"); made = FilesBy (codes "@PJL DEFAULT PAPER=a4\n@PJL DEFAULT COPIES=2\n@PJL RESET\n") (codes "page-%d.pbm") })
unfolding clap_on_literals
with_defaults = refl

-- no variable, no value that it knows, no value at all, and white space
no_variable : arguments (codes "press" ∷ codes "print" ∷ codes "--default" ∷ codes "SIZE=A4" ∷ codes "--list" ∷ codes "a.pcl" ∷ []) ≡ None
unfolding clap_on_literals
no_variable = refl

no_value : arguments (codes "press" ∷ codes "debug" ∷ codes "--default" ∷ codes "COPIES=1000" ∷ codes "a.pcl" ∷ []) ≡ None
unfolding clap_on_literals
no_value = refl

no_equals : arguments (codes "press" ∷ codes "debug" ∷ codes "--default" ∷ codes "COPIES" ∷ codes "a.pcl" ∷ []) ≡ None
unfolding clap_on_literals
no_equals = refl

white_space : arguments (codes "press" ∷ codes "debug" ∷ codes "--default" ∷ codes "COPIES= 1" ∷ codes "a.pcl" ∷ []) ≡ None
unfolding clap_on_literals
white_space = refl

debugging_with_a_default : arguments (codes "press" ∷ codes "debug" ∷ codes "--default" ∷ codes "RESOLUTION=600" ∷ codes "a.pcl" ∷ [])
    ≡ Some (record { source = Standard; made = DebuggedOf (codes "@PJL DEFAULT RESOLUTION=600\n@PJL RESET\n") (codes "a.pcl") })
unfolding clap_on_literals
debugging_with_a_default = refl

tracing_with_a_default : arguments (codes "press" ∷ codes "trace" ∷ codes "--default" ∷ codes "RESOLUTION=600" ∷ codes "-" ∷ [])
    ≡ Some (record { source = Standard; made = TracedOf (codes "@PJL DEFAULT RESOLUTION=600\n@PJL RESET\n") })
unfolding clap_on_literals
tracing_with_a_default = refl

assembling : arguments (codes "press" ∷ codes "asm" ∷ codes "a" ∷ codes "b" ∷ []) ≡ Some (record { source = FileNamed (codes "a"); made = StreamTo (codes "b") })
unfolding clap_on_literals
assembling = refl

-- `-` is no file that can be made
assembling_to_a_dash : arguments (codes "press" ∷ codes "asm" ∷ codes "a" ∷ codes "-" ∷ []) ≡ None
unfolding clap_on_literals
assembling_to_a_dash = refl

writing_to_a_dash : arguments (codes "press" ∷ codes "write" ∷ codes "t" ∷ codes "-" ∷ codes "i" ∷ []) ≡ None
unfolding clap_on_literals
writing_to_a_dash = refl

no_output : arguments (codes "press" ∷ codes "asm" ∷ codes "a" ∷ []) ≡ None
unfolding clap_on_literals
no_output = refl

tables : arguments (codes "press" ∷ codes "tables" ∷ []) ≡ Some (record { source = Standard; made = TablesTold })
unfolding clap_on_literals
tables = refl

-- which has no word
tables_of_a_word : arguments (codes "press" ∷ codes "tables" ∷ codes "a.pcl" ∷ []) ≡ None
unfolding clap_on_literals
tables_of_a_word = refl

disassembling : arguments (codes "press" ∷ codes "disasm" ∷ codes "-" ∷ []) ≡ Some (record { source = Standard; made = AsText })
unfolding clap_on_literals
disassembling = refl

explaining : arguments (codes "press" ∷ codes "explain" ∷ codes "a.pcl" ∷ []) ≡ Some (record { source = FileNamed (codes "a.pcl"); made = ExplainedOf [] })
unfolding clap_on_literals
explaining = refl

explaining_with_a_default : arguments (codes "press" ∷ codes "explain" ∷ codes "--default" ∷ codes "RESOLUTION=600" ∷ codes "-" ∷ [])
    ≡ Some (record { source = Standard; made = ExplainedOf (codes "@PJL DEFAULT RESOLUTION=600\n@PJL RESET\n") })
unfolding clap_on_literals
explaining_with_a_default = refl

-- without an input, with two, with a flag that it has not, and with a default that sets nothing
explaining_nothing : arguments (codes "press" ∷ codes "explain" ∷ []) ≡ None
unfolding clap_on_literals
explaining_nothing = refl

explaining_two : arguments (codes "press" ∷ codes "explain" ∷ codes "a.pcl" ∷ codes "b" ∷ []) ≡ None
unfolding clap_on_literals
explaining_two = refl

explaining_by_runs : arguments (codes "press" ∷ codes "explain" ∷ codes "--runs" ∷ codes "a.pcl" ∷ []) ≡ None
unfolding clap_on_literals
explaining_by_runs = refl

explaining_of_no_value : arguments (codes "press" ∷ codes "explain" ∷ codes "--default" ∷ codes "COPIES=1000" ∷ codes "a.pcl" ∷ []) ≡ None
unfolding clap_on_literals
explaining_of_no_value = refl

writing : arguments (codes "press" ∷ codes "write" ∷ codes "-" ∷ codes "o" ∷ codes "b" ∷ codes "a" ∷ codes "b" ∷ [])
    ≡ Some (record { source = FileNamed (codes "-"); made = JobTo (codes "o") (codes "b" ∷ codes "a" ∷ codes "b" ∷ []) })
unfolding clap_on_literals
writing = refl

no_images : arguments (codes "press" ∷ codes "write" ∷ codes "t" ∷ codes "o" ∷ []) ≡ Some (record { source = FileNamed (codes "t"); made = JobTo (codes "o") [] })
unfolding clap_on_literals
no_images = refl

no_job : arguments (codes "press" ∷ codes "write" ∷ codes "t" ∷ []) ≡ None
unfolding clap_on_literals
no_job = refl

session : arguments (codes "press" ∷ codes "press" ∷ [])
    ≡ Some (record { source = Standard; made = Answered (record { engines = 1; template = None; sums = false; goes_on = false }) })
unfolding clap_on_literals
session = refl

session_of_engines : arguments (codes "press" ∷ codes "press" ∷ codes "--engines" ∷ codes "04" ∷ [])
    ≡ Some (record { source = Standard; made = Answered (record { engines = 4; template = None; sums = false; goes_on = false }) })
unfolding clap_on_literals
session_of_engines = refl

-- with a file for each side, with digests, and going on behind a line that is wrong
session_of_files : arguments (codes "press" ∷ codes "press" ∷ codes "--out" ∷ codes "%q-%d" ∷ codes "--sums" ∷ codes "--keep-going" ∷ [])
    ≡ Some (record { source = Standard; made = Answered (record { engines = 1; template = Some (codes "%q-%d"); sums = true; goes_on = true }) })
unfolding clap_on_literals
session_of_files = refl

session_of_no_files : arguments (codes "press" ∷ codes "press" ∷ codes "--out" ∷ []) ≡ None
unfolding clap_on_literals
session_of_no_files = refl

session_of_no_number : arguments (codes "press" ∷ codes "press" ∷ codes "--engines" ∷ codes "two" ∷ []) ≡ None
unfolding clap_on_literals
session_of_no_number = refl

session_of_nothing : arguments (codes "press" ∷ codes "press" ∷ codes "--engines" ∷ []) ≡ None
unfolding clap_on_literals
session_of_nothing = refl

session_of_a_file : arguments (codes "press" ∷ codes "press" ∷ codes "a" ∷ []) ≡ None
unfolding clap_on_literals
session_of_a_file = refl

debugging : arguments (codes "press" ∷ codes "debug" ∷ codes "a" ∷ []) ≡ Some (record { source = Standard; made = DebuggedOf [] (codes "a") })
unfolding clap_on_literals
debugging = refl

debugging_standard_input : arguments (codes "press" ∷ codes "debug" ∷ codes "-" ∷ []) ≡ None
unfolding clap_on_literals
debugging_standard_input = refl

other_subcommand : arguments (codes "press" ∷ codes "step" ∷ codes "a" ∷ []) ≡ None
unfolding clap_on_literals
other_subcommand = refl

help : arguments (codes "press" ∷ codes "--help" ∷ []) ≡ None
unfolding clap_on_literals
help = refl

-- the page of a step, a number of steps that is none, and standard output, which is no file
page_of_a_step : arguments (codes "press" ∷ codes "page" ∷ codes "a.pcl" ∷ codes "17" ∷ codes "b" ∷ [])
    ≡ Some (record { source = FileNamed (codes "a.pcl"); made = PageTo [] 17 (codes "b") })
unfolding clap_on_literals
page_of_a_step = refl

page_of_no_step : arguments (codes "press" ∷ codes "page" ∷ codes "a.pcl" ∷ codes "1x" ∷ codes "b" ∷ []) ≡ None
unfolding clap_on_literals
page_of_no_step = refl

page_of_no_file : arguments (codes "press" ∷ codes "page" ∷ codes "a.pcl" ∷ codes "17" ∷ codes "-" ∷ []) ≡ None
unfolding clap_on_literals
page_of_no_file = refl
