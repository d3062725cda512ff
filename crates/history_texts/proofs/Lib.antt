pub mod Spans
pub mod Forms
pub mod Values
pub mod Messages
pub mod WhatForms
pub mod Told
pub mod Whats
pub mod Histories
