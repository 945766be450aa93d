-- The limits of the product: each number once, with what it counts.
use Rattle.std.specs.Prelude.{ℕ}

-- The most bytes of a file.
abbrev pub largest_file : ℕ
largest_file = 1048576

-- The most files of a folder.
abbrev pub most_files : ℕ
most_files = 4096

-- The most bytes of a path.
abbrev pub longest_path : ℕ
longest_path = 1024

-- The most nodes of a file, where each alias counts as all nodes in the node that it refers to.
abbrev pub most_nodes : ℕ
most_nodes = 100000

-- The most bytes of text in the nodes that a file's aliases refer to.
abbrev pub most_alias_text : ℕ
most_alias_text = 1048576

-- The greatest depth of nested collections in a file.
abbrev pub deepest_collection : ℕ
deepest_collection = 64

-- The most characters of an implicit key (one without `?`), as written (YAML 1.2.2, 7.4.2 and
-- 8.2.2).
abbrev pub longest_key : ℕ
longest_key = 1024

-- The most bytes of a text that may have expressions; no file has a longer one.
abbrev pub longest_text : ℕ
longest_text = 4194304

-- The most bytes of an expression.
abbrev pub longest_expression : ℕ
longest_expression = 21000

-- The greatest depth of nested brackets and negations in an expression.
abbrev pub deepest_expression : ℕ
deepest_expression = 50

-- The most bytes of a command's line in a script, without the line feed.
abbrev pub longest_line : ℕ
longest_line = 2048

-- The most reads in a run of a script.
abbrev pub most_reads : ℕ
most_reads = 1048576

-- The most bytes that each of these reads asks for.
abbrev pub largest_read : ℕ
largest_read = 65536
