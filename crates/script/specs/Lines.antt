-- What the words of a line say.
use Rattle.std.specs.Prelude.{◌≡◌, ℕ, zero, suc, List, [], Some, vec_items, codes}
use Rattle.control.specs.Control.{control_octet}
use Rattle.control.specs.declared.Control.{Control}
use Rattle.isdu.specs.Order.{Order, order_with, read, write}
use Rattle.text.specs.Number.{read_flag, read_number}
use Rattle.text.specs.Text.{read_chars, read_hex}
use Rattle.script.specs.Words.{after_word, first_word, service_word}
use Rattle.script.specs.declared.command.Command.{Command}
use Rattle.script.specs.declared.command.Command.TheVariants.{OpenFrame, Message, Answer, Put, Reply, Request, Response, Encode}

abbrev pub octet_of : Control → ℕ
octet_of c = control_octet c.access c.channel

-- What follows the first k words of a text, and the word after them.
abbrev pub after_words : ℕ → List ℕ → List ℕ
after_words zero text = text
after_words (suc k) text = after_words k (after_word text)

abbrev pub word_at : ℕ → List ℕ → List ℕ
word_at k text = first_word (after_words k text)

-- The words of an order.
abbrev pub SaysOrder : Order → List ℕ → Type 0
SaysOrder (read at) text =
    (first_word text ≡ codes "read") × (read_number (word_at 1 text) ≡ Some at.0) × (read_number (word_at 2 text) ≡ Some at.1)
SaysOrder (write at os) text =
    (first_word text ≡ codes "write") × (read_number (word_at 1 text) ≡ Some at.0) × (read_number (word_at 2 text) ≡ Some at.1)
    × (read_hex (word_at 3 text) ≡ Some os)

abbrev pub count_in : Order → ℕ
count_in (read at) = 3
count_in (write at os) = 4

-- The words that follow a command's name.
abbrev pub Says : Command → List ℕ → Type 0
Says (OpenFrame n p q) text =
    (first_word text ≡ codes "frame") × (read_number (word_at 1 text) ≡ Some n) × (read_number (word_at 2 text) ≡ Some p)
    × (read_number (word_at 3 text) ≡ Some q)
Says (Message record') text = read_chars (first_word text) ≡ Some (vec_items record')
Says (Answer control record') text =
    (read_number (first_word text) ≡ Some (octet_of control)) × (read_chars (word_at 1 text) ≡ Some (vec_items record'))
Says (Put m) text =
    (read_number (first_word text) ≡ Some (octet_of m.control)) × (read_hex (word_at 1 text) ≡ Some (vec_items m.outputs))
    × (read_hex (word_at 2 text) ≡ Some (vec_items m.on_request))
Says (Reply control r) text =
    (read_number (first_word text) ≡ Some (octet_of control)) × (read_hex (word_at 1 text) ≡ Some (vec_items r.on_request))
    × (read_hex (word_at 2 text) ≡ Some (vec_items r.inputs))
    × (read_flag (word_at 3 text) ≡ Some r.event)
    × (read_flag (word_at 4 text) ≡ Some r.invalid)
Says (Request os) text = read_hex (first_word text) ≡ Some (vec_items os)
Says (Response service os) text = (first_word text ≡ service_word service) × (read_hex (word_at 1 text) ≡ Some (vec_items os))
Says (Encode order) text = SaysOrder (order_with vec_items order) text

-- The name of a command, and how many words follow it.
abbrev pub name_of : Command → List ℕ
name_of (OpenFrame n p q) = codes "open"
name_of (Message record') = codes "message"
name_of (Answer control record') = codes "answer"
name_of (Put m) = codes "put"
name_of (Reply control r) = codes "reply"
name_of (Request os) = codes "request"
name_of (Response service os) = codes "response"
name_of (Encode order) = codes "encode"

abbrev pub count : Command → ℕ
count (OpenFrame n p q) = 4
count (Message record') = 1
count (Answer control record') = 2
count (Put m) = 3
count (Reply control r) = 5
count (Request os) = 1
count (Response service os) = 2
count (Encode order) = count_in (order_with vec_items order)

-- A text is a command: its name, the words that it takes, and no more.
pub record IsCommand (text : List ℕ) (command : Command) : Type 0 where
  pub named : first_word text ≡ name_of command
  pub says : Says command (after_word text)
  pub ends : word_at (count command) (after_word text) ≡ []

-- A command of this name is what a text begins with, and what follows it is left.
pub record ReadsCommand (name old new : List ℕ) (command : Command) : Type 0 where
  pub named : name ≡ name_of command
  pub says : Says command old
  pub rest : new ≡ after_words (count command) old
