mod Beginning
mod Laying
