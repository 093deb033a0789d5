-- What the words of a command line ask for.
use Rattle.std.specs.Prelude.{ℕ, ◌&&◌, List, [], ◌∷◌, codes, Bool, true, false, Option, Some, None, if◌then◌else◌}
use Rattle.std.specs.Str.{bytes_eq}
use Rattle.aq_run.specs.declared.command.Command.{Command}
use Rattle.aq_run.specs.declared.command.Command.TheVariants.{Run, Dump, Compact, Generate, Audit}

-- ---- commands by their words

-- the run of a script by the serial schedule, which prints its transcript
abbrev pub serial_run : Command
serial_run = Run true false

abbrev pub is_serial_run : List (List ℕ) → Bool
is_serial_run (a ∷ b ∷ []) = bytes_eq a (codes "run") && bytes_eq b (codes "--serial")
is_serial_run _ = false

-- the tables of both databases
abbrev pub is_dump : List (List ℕ) → Bool
is_dump (a ∷ []) = bytes_eq a (codes "dump")
is_dump _ = false

-- the journals of both databases, compacted
abbrev pub is_compact : List (List ℕ) → Bool
is_compact (a ∷ []) = bytes_eq a (codes "compact")
is_compact _ = false

-- the command that they ask for, if they ask for one that is there
abbrev pub command_of : List (List ℕ) → Option Command
command_of words = if is_serial_run words then Some serial_run else (if is_dump words then Some Dump else (if is_compact words then Some Compact else None))

-- ---- what a command does

-- it runs the script that is read, its sessions as threads
abbrev pub runs_in_threads : Option Command → Bool
runs_in_threads (Some (Run false traced)) = true
runs_in_threads _ = false

-- it reads the input
abbrev pub reads_input : Option Command → Bool
reads_input (Some (Run serially traced)) = true
reads_input (Some Audit) = true
reads_input _ = false

-- it runs the script that is read
abbrev pub runs : Option Command → Bool
runs (Some (Run serially traced)) = true
runs _ = false

-- it mounts the disks that are handed in
abbrev pub mounts_disks : Option Command → Bool
mounts_disks (Some (Run serially traced)) = true
mounts_disks (Some Dump) = true
mounts_disks (Some Compact) = true
mounts_disks (Some Audit) = true
mounts_disks _ = false
