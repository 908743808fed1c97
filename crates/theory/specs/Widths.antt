-- The widths of documents 01 and 02, each named once. The rules of diagrams know none of them.
use Rattle.std.specs.Prelude.{ℕ, ◌+◌, ◌*◌}

-- "m up to 8"
abbrev pub levels_most : ℕ
levels_most = 8

-- "n conditions (0 to 4)"; the next step's conditions are numbered from here on, "5 to 4+n"
abbrev pub conditions_most : ℕ
conditions_most = 4

-- "A as two bytes (1 to 400)"
abbrev pub actions_most : ℕ
actions_most = 400

-- a flag for each thing that an action is given, and for its name: a row of the actions, from 1 on, for the reward, each chance, each next level and the name; flag 0 is the end worth's
abbrev pub flags_most : ℕ
flags_most = (2 + conditions_most + levels_most) * actions_most + 1

-- "weight total W (1 to 100)"
abbrev pub weights_most : ℕ
weights_most = 100

-- "it holds at most 32"
abbrev pub stack_most : ℕ
stack_most = 32

-- "A model may have 262,144 bytes"
abbrev pub bytes_most : ℕ
bytes_most = 262144

-- "horizon or steps not 1 to 8", and the eight stage words
abbrev pub steps_most : ℕ
steps_most = 8

-- the diagrams of a model: "Every reward, chance and next level is given exactly once"
abbrev pub model_roots_most : ℕ
model_roots_most = (1 + conditions_most + levels_most) * actions_most

-- with stage 0, which an end worth is
abbrev pub loaded_roots_most : ℕ
loaded_roots_most = model_roots_most + 1

-- "the model, finished stages, best so far and last result", with stage 0
abbrev pub roots_most : ℕ
roots_most = loaded_roots_most + steps_most + 2

-- "What the tables hold, N, is the least of node words ÷ 12, work words ÷ 8 and 65,535"
abbrev pub nodes_most : ℕ
nodes_most = 65535

-- "A node is twelve 64-bit words"
abbrev pub node_words : ℕ
node_words = 12

-- "work words ÷ 8"
abbrev pub work_words : ℕ
work_words = 8

-- "a lent slice of 401 32-bit words: loading, then actions 1 to A"
abbrev pub peak_words : ℕ
peak_words = actions_most + 1

-- "30 name: action, 16 bytes"
abbrev pub name_bytes : ℕ
name_bytes = 16
