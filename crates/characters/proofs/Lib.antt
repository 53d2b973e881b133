pub mod OneToOne
pub mod Right
