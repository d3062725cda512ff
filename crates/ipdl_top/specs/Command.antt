-- How the program is called.
use Rattle.std.specs.Prelude.{ℕ, List, codes}

-- the text that says how the program is called
abbrev pub usage_text : List ℕ
usage_text = codes "usage: ipdl [-s LIST] [--path DIRS] FILES\n       ipdl run [-s LIST] [--path DIRS] [--schedule WORD] [--limit N] [--die SIDE:K] SCRIPT FILE\n       ipdl frames [-s LIST] [--path DIRS] [--to 2] FILE FRAMES\n       ipdl gen [--actors A] N\n       ipdl feed [-s LIST] [--path DIRS] [--limit N] --side SIDE SCRIPT FILE FRAMES\n       ipdl relay [-s LIST] [--path DIRS] [--die SIDE:K] [--limit N] SCRIPT FILE\n       ipdl audit [-s LIST] [--path DIRS] [--limit N] SCRIPT FILE TRANSCRIPT\n       ipdl waits [-s LIST] [--path DIRS] FILE\n       ipdl chart [-s LIST] [--path DIRS] [--schedule WORD] [--limit N] [--die SIDE:K] SCRIPT FILE\n       ipdl explore [-s LIST] [--path DIRS] [--limit N] [--ways M] SCRIPT FILE\n       ipdl help [COMMAND]\n       ipdl version\n"
