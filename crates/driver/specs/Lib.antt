-- What `write_output` leaves (Within); the frames that a call of the solver leaves (Solving), and those for a text (Answering);
-- the output from what `read` and `solve` answer (Program).
pub mod Within
pub mod Solving
pub mod Answering
pub mod Program
